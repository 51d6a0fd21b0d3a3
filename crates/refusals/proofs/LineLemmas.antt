-- Texts that are read line by line: what is read of them, and that they are refused at one place.
use Rattle.std.proofs.Common.{◌≡◌, ℕ, ◌+◌, ◌-◌, ◌^◌, min, List, [], ◌∷◌, ◌++◌, length, length-append, append_assoc, refl, sym, ap, subst, ◌∙◌, arith, inl, inr}
use Rattle.std.proofs.lemmas.List.{append-nil}
use Rattle.refusals.specs.Refusals.{one_place, refused_nowhere}
use Rattle.refusals.specs.Told.{told_number}
use Rattle.refusals.specs.Lines.{Lines, IsAfter, IsFirstRefused, IsRefusedAlone, IsRefusedIn, IsTaken, IsTakenAlone}

-- a grammar of lines that says one thing: a line means one thing, a meaning makes one state or is refused at one place
pub record SaysOne {S X M : Type 0} (lines : Lines S X M) : Type 0 where
  pub one_meaning : (state : S) (line : List X) (m n : M) → lines.means state line m → lines.means state line n → m ≡ n
  pub one_next : (state : S) (m : M) (a b : S) → lines.takes state m a → lines.takes state m b → a ≡ b
  pub one_refused : (state : S) (m : M) (line : List X) (j k : ℕ) → lines.refuses state m line j → lines.refuses state m line k → j ≡ k
  pub not_both : (state : S) (m : M) (line : List X) (next : S) (place : ℕ) → lines.takes state m next → ¬ lines.refuses state m line place

-- what is taken is refused nowhere
taken_not_refused : {S X M : Type 0} (lines : Lines S X M) → SaysOne lines → (state : S) (line : List X) (next : S) (place : ℕ) → IsTaken lines state line next → ¬ IsRefusedIn lines state line place
taken_not_refused lines one state line next place (m, means, takes) (inl refused) = refused_nowhere (lines.means state) line m place means refused
taken_not_refused {S = S} {X = X} {M = M} lines one state line next place (m, means, takes) (inr (n, also, refuses)) =
    let P : M → Type 0 = λ k. lines.takes state k next in
    one.not_both state n line next place (subst P (one.one_meaning state line m n means also) takes) refuses

-- where a grammar says one thing, what is taken is taken alone
pub taken_alone : {S X M : Type 0} (lines : Lines S X M) → SaysOne lines → (state : S) (line : List X) (next : S) → IsTaken lines state line next → IsTakenAlone lines state line next
taken_alone {S = S} {M = M} lines one state line next (m, means, takes) = record {
  taken = (m, means, takes);
  only = only;
  not_refused = λ place. taken_not_refused lines one state line next place (m, means, takes);
}
  where
    only : (other : S) → IsTaken lines state line other → other ≡ next
    only other (n, also, makes) =
        let P : M → Type 0 = λ k. lines.takes state k other in
        one.one_next state m other next (subst P (one.one_meaning state line n m also means) makes) takes

-- and what is refused is refused alone
pub refused_alone : {S X M : Type 0} (lines : Lines S X M) → SaysOne lines → (state : S) (line : List X) (place : ℕ) → IsRefusedIn lines state line place → IsRefusedAlone lines state line place
refused_alone {S = S} {X = X} {M = M} lines one state line place refused = record {
  refused = refused;
  only = λ other also. same other place also refused;
  not_taken = λ next taken. taken_not_refused lines one state line next place taken refused;
}
  where
    same : (j k : ℕ) → IsRefusedIn lines state line j → IsRefusedIn lines state line k → j ≡ k
    same j k (inl first) (inl second) = one_place (lines.means state) line j k first second
    same j k (inl first) (inr (m, means, refuses)) = absurd (refused_nowhere (lines.means state) line m j means first)
    same j k (inr (m, means, refuses)) (inl second) = absurd (refused_nowhere (lines.means state) line m k means second)
    same j k (inr (m, means, refuses)) (inr (n, also, also_refuses)) =
        let P : M → Type 0 = λ o. lines.refuses state o line j in
        one.one_refused state n line j k (subst P (one.one_meaning state line m n means also) refuses) also_refuses

-- the state after lines, each of which is taken alone
abbrev pub IsAfterAlone : {S X M : Type 0} → Lines S X M → S → List (List X) → S → Type 0
IsAfterAlone lines state [] final = final ≡ state
IsAfterAlone {S = S} lines state (line ∷ text) final = (next : S) × IsTakenAlone lines state line next × IsAfterAlone lines next text final

after_alone : {S X M : Type 0} (lines : Lines S X M) (text : List (List X)) (state final : S) → IsAfterAlone lines state text final → IsAfter lines state text final
after_alone lines [] state final is = is
after_alone lines (line ∷ text) state final (next, alone, behind) = (next, alone.taken, after_alone lines text next final behind)

push_alone : {S X M : Type 0} (lines : Lines S X M) (text : List (List X)) (line : List X) (start state next : S) → IsAfterAlone lines start text state → IsTakenAlone lines state line next
    → IsAfterAlone lines start (text ++ line ∷ []) next
push_alone {S = S} lines [] line start state next same alone =
    let P : S → Type 0 = λ s. IsTakenAlone lines s line next in
    (next, subst P same alone, refl)
push_alone lines (first ∷ text) line start state next (second, one, behind) alone = (second, one, push_alone lines text line second state next behind alone)

-- what comes after a text comes after its rest, where its front was taken alone
after_rest : {S X M : Type 0} (lines : Lines S X M) (front rest : List (List X)) (start state final : S) → IsAfterAlone lines start front state → IsAfter lines start (front ++ rest) final
    → IsAfter lines state rest final
after_rest {S = S} lines [] rest start state final same after =
    let P : S → Type 0 = λ s. IsAfter lines s rest final in
    subst P (sym same) after
after_rest {S = S} lines (line ∷ front) rest start state final (next, alone, behind) (other, taken, after) =
    let P : S → Type 0 = λ s. IsAfter lines s (front ++ rest) final in
    after_rest lines front rest next state final behind (subst P (alone.only other taken) after)

same_head : {X : Type 0} (x y : X) (xs ys : List X) → x ∷ xs ≡ y ∷ ys → x ≡ y
same_head x y xs ys same = cc

same_tail : {X : Type 0} (x y : X) (xs ys : List X) → x ∷ xs ≡ y ∷ ys → xs ≡ ys
same_tail x y xs ys same = cc

-- a refused line does not stand among lines that were taken alone
past_alone : {S X M : Type 0} (lines : Lines S X M) (front rest before behind : List (List X)) (line : List X) (place : ℕ) (start state middle : S) → IsAfterAlone lines start front state
    → front ++ rest ≡ before ++ line ∷ behind → IsAfter lines start before middle → IsRefusedIn lines middle line place
    → (more : List (List X)) × (before ≡ front ++ more) × (rest ≡ more ++ line ∷ behind) × IsAfter lines state more middle
past_alone {S = S} lines [] rest before behind line place start state middle same cut after refused =
    let P : S → Type 0 = λ s. IsAfter lines s before middle in
    (before, refl, cut, subst P (sym same) after)
past_alone {S = S} {X = X} lines (first ∷ front) rest [] behind line place start state middle (next, alone, others) cut same refused =
    let P : S → Type 0 = λ s. IsRefusedIn lines s line place in
    let Q : List X → Type 0 = λ l. IsRefusedIn lines start l place in
    absurd (alone.not_refused place (subst Q (sym (same_head first line (front ++ rest) behind cut)) (subst P same refused)))
past_alone {S = S} {X = X} lines (first ∷ front) rest (second ∷ before) behind line place start state middle (next, alone, others) cut (other, taken, after) refused =
    let heads : first ≡ second = same_head first second (front ++ rest) (before ++ line ∷ behind) cut in
    let Q : List X → Type 0 = λ l. IsTaken lines start l other in
    let P : S → Type 0 = λ s. IsAfter lines s before middle in
    let here = alone.only other (subst Q (sym heads) taken) in
    let (more, is, left, behind_front) = past_alone lines front rest before behind line place next state middle others (same_tail first second (front ++ rest) (before ++ line ∷ behind) cut) (subst P here after) refused in
    (more, sym (ap (λ l. l ∷ before) heads) ∙ ap (λ ls. first ∷ ls) is, left, behind_front)

-- so many lines of a text are read, each taken alone, and made this state
pub record IsReadTo {S X M : Type 0} (lines : Lines S X M) (start : S) (text left : List (List X)) (number : ℕ) (state : S) : Type 0 where
  pub before : List (List X)
  pub cut : text ≡ before ++ left
  pub count : number ≡ told_number (length before)
  pub after : IsAfterAlone lines start before state

-- nothing is read at first
pub read_none : {S X M : Type 0} (lines : Lines S X M) (start : S) (text left : List (List X)) → left ≡ text → IsReadTo lines start text left 0 start
read_none lines start text left all = record { before = []; cut = sym all; count = refl; after = refl }

-- a line more is read
pub read_more : {S X M : Type 0} (lines : Lines S X M) (start : S) (text left rest : List (List X)) (line : List X) (number more : ℕ) (state next : S) → IsReadTo lines start text left number state
    → left ≡ line ∷ rest → more ≡ min (number + 1) (2 ^ 32 - 1) → IsTakenAlone lines state line next → IsReadTo lines start text rest more next
read_more lines start text left rest line number more state next read is one alone = record {
  before = read.before ++ line ∷ [];
  cut = read.cut ∙ ap (λ ls. read.before ++ ls) is ∙ sym (append_assoc read.before (line ∷ []) rest);
  count = omega (arith, read.count, length-append read.before (line ∷ []));
  after = push_alone lines read.before line start state next read.after alone;
}

-- a text whose lines are all read makes the state, and no other
pub read_all : {S X M : Type 0} (lines : Lines S X M) (start : S) (text left : List (List X)) (number : ℕ) (state : S) → IsReadTo lines start text left number state → left ≡ []
    → IsAfter lines start text state
read_all {X = X} lines start text left number state read ended =
    let P : List (List X) → Type 0 = λ ls. IsAfter lines start ls state in
    subst P (sym (read.cut ∙ ap (λ ls. read.before ++ ls) ended ∙ append-nil read.before)) (after_alone lines read.before start state read.after)

pub read_one : {S X M : Type 0} (lines : Lines S X M) (start : S) (text left : List (List X)) (number : ℕ) (state final : S) → IsReadTo lines start text left number state → left ≡ []
    → IsAfter lines start text final → final ≡ state
read_one {S = S} {X = X} lines start text left number state final read ended after =
    let P : List (List X) → Type 0 = λ ls. IsAfter lines start ls final in
    after_rest lines read.before [] start state final read.after (subst P (read.cut ∙ ap (λ ls. read.before ++ ls) ended) after)

-- and is refused nowhere
pub read_refused_nowhere : {S X M : Type 0} (lines : Lines S X M) (start : S) (text left : List (List X)) (number line symbol : ℕ) (state : S) → IsReadTo lines start text left number state
    → left ≡ [] → ¬ IsFirstRefused lines start text line symbol
read_refused_nowhere {S = S} {X = X} lines start text left number line symbol state read ended refused =
    let (more, is, rest, after) = past_alone lines read.before left refused.before refused.behind refused.refused refused.place start state refused.state read.after (sym read.cut ∙ refused.cut)
    refused.after refused.here in
    let longer = ap length (sym rest ∙ ended) in
    absurd (omega (arith, longer, length-append more (refused.refused ∷ refused.behind)))

-- a text whose next line is refused is refused there
pub read_refused : {S X M : Type 0} (lines : Lines S X M) (start : S) (text left rest : List (List X)) (line : List X) (number more place symbol : ℕ) (state : S)
    → IsReadTo lines start text left number state → left ≡ line ∷ rest → more ≡ min (number + 1) (2 ^ 32 - 1) → IsRefusedAlone lines state line place → symbol ≡ told_number (place + 1)
    → IsFirstRefused lines start text more symbol
read_refused lines start text left rest line number more place symbol state read is one alone told = record {
  before = read.before;
  refused = line;
  behind = rest;
  state = state;
  place = place;
  cut = read.cut ∙ ap (λ ls. read.before ++ ls) is;
  after = after_alone lines read.before start state read.after;
  here = alone.refused;
  line_told = omega (arith, read.count, one);
  symbol_told = told;
}

-- and at no other place
pub read_refused_once : {S X M : Type 0} (lines : Lines S X M) (start : S) (text left rest : List (List X)) (line : List X) (number more place symbol other_line other_symbol : ℕ) (state : S)
    → IsReadTo lines start text left number state → left ≡ line ∷ rest → more ≡ min (number + 1) (2 ^ 32 - 1) → IsRefusedAlone lines state line place → symbol ≡ told_number (place + 1)
    → IsFirstRefused lines start text other_line other_symbol → (more ≡ other_line) × (symbol ≡ other_symbol)
read_refused_once {S = S} {X = X} lines start text left rest line number more place symbol other_line other_symbol state read is one alone told refused =
    let (beyond, before, cut, after) = past_alone lines read.before left refused.before refused.behind refused.refused refused.place start state refused.state read.after
    (sym read.cut ∙ refused.cut) refused.after refused.here in
    same_place beyond before (sym is ∙ cut) after
  where
    same_place : (beyond : List (List X)) → refused.before ≡ read.before ++ beyond → line ∷ rest ≡ beyond ++ refused.refused ∷ refused.behind → IsAfter lines state beyond refused.state
        → (more ≡ other_line) × (symbol ≡ other_symbol)
    same_place [] before cut same =
        let P : S → Type 0 = λ s. IsRefusedIn lines s refused.refused refused.place in
        let Q : List X → Type 0 = λ l. IsRefusedIn lines state l refused.place in
        let here = subst Q (sym (same_head line refused.refused rest refused.behind cut)) (subst P same refused.here) in
        let places = alone.only refused.place here in
        (omega (arith, read.count, one, refused.line_told, ap length before, length-append read.before []), omega (arith, told, refused.symbol_told, places))
    same_place (first ∷ beyond) before cut (next, taken, behind) =
        let Q : List X → Type 0 = λ l. IsTaken lines state l next in
        absurd (alone.not_taken next (subst Q (sym (same_head line first rest (beyond ++ refused.refused ∷ refused.behind) cut)) taken))

-- a text whose next line is refused makes no state
pub read_refused_untaken : {S X M : Type 0} (lines : Lines S X M) (start : S) (text left rest : List (List X)) (line : List X) (number place : ℕ) (state final : S)
    → IsReadTo lines start text left number state → left ≡ line ∷ rest → IsRefusedAlone lines state line place → ¬ IsAfter lines start text final
read_refused_untaken {X = X} lines start text left rest line number place state final read is alone after =
    let P : List (List X) → Type 0 = λ ls. IsAfter lines start ls final in
    let (next, taken, behind) = after_rest lines read.before (line ∷ rest) start state final read.after (subst P (read.cut ∙ ap (λ ls. read.before ++ ls) is) after) in
    alone.not_taken next taken
