-- Decimal numbers after the last mark of a text.
use Rattle.std.proofs.Common.{◌≡◌, ◌≢◌, ℕ, suc, ◌+◌, ◌-◌, ◌<◌, ◌≤◌, ◌^◌, List, [], ◌∷◌, ◌++◌, All, length, get_or, take, drop, decimal, refl, sym, ap, ◌∙◌, subst, arith, take-append-drop, append_assoc, add-one}
use Rattle.std.proofs.lemmas.Fmt.{decimal_is_IsNumeral}
use Rattle.std.proofs.lemmas.List.{take_rest}
use Rattle.std.proofs.lemmas.List.Elements.{All-cons, All-nil}
use Rattle.std.proofs.Math.Seq.{drop-cons}
use Rattle.std.specs.Char.{digit_value}
use Rattle.std.specs.Str.Parse.{AllDigits}

-- none is the mark
abbrev pub Lacks : ℕ → List ℕ → Type 0
Lacks mark text = All (λ octet. octet ≢ mark) text

-- digits have no mark that is no digit
AllDigits-lacks : (mark : ℕ) (digits : List ℕ) → 10 ≤ digit_value mark → AllDigits 10 digits → Lacks mark digits
AllDigits-lacks mark [] above all = All-nil (λ octet. octet ≢ mark)
AllDigits-lacks mark (digit ∷ digits) above all =
    let other : digit ≢ mark = λ same. let equal = ap digit_value same in omega (arith, all.0) in
    All-cons (λ octet. octet ≢ mark) digit digits other (AllDigits-lacks mark digits above all.1)

pub decimal-lacks : (mark n : ℕ) → 10 ≤ digit_value mark → n < 2 ^ 16 → Lacks mark (decimal n)
decimal-lacks mark n above small = AllDigits-lacks mark (decimal n) above (decimal_is_IsNumeral n (omega arith)).0.1

-- a text that has a mark does not lack it
pub Lacks-seam : (mark : ℕ) (front rest : List ℕ) → ¬ (Lacks mark (front ++ mark ∷ rest))
Lacks-seam mark [] rest lacks = lacks 0 0 (omega arith) refl
Lacks-seam mark (x ∷ front) rest lacks = Lacks-seam mark front rest (λ k d within. lacks (suc k) d (omega arith))

pub Lacks-at_end : (mark : ℕ) (text front : List ℕ) (n : ℕ) → Lacks mark text → text ≢ front ++ mark ∷ [] ++ decimal n
Lacks-at_end mark text front n lacks same =
    Lacks-seam mark front (decimal n) (subst (Lacks mark) (same ∙ append_assoc front (mark ∷ []) (decimal n)) lacks)

-- a text is cut at its last mark in one way
last_mark-one : (mark : ℕ) (front other rest more : List ℕ) → Lacks mark rest → Lacks mark more → front ++ mark ∷ rest ≡ other ++ mark ∷ more → (front ≡ other) × (rest ≡ more)
last_mark-one mark [] [] rest more h k same = (refl, ap (drop 1) same)
last_mark-one mark [] (y ∷ other) rest more h k same =
    absurd (Lacks-seam mark other more (subst (Lacks mark) (ap (drop 1) same) h))
last_mark-one mark (x ∷ front) [] rest more h k same =
    absurd (Lacks-seam mark front rest (subst (Lacks mark) (sym (ap (drop 1) same)) k))
last_mark-one mark (x ∷ front) (y ∷ other) rest more h k same =
    let first : x ≡ y = ap (λ text. get_or text 0 0) same in
    let later = last_mark-one mark front other rest more h k (ap (drop 1) same) in
    (λ i. first i ∷ later.0 i, later.1)

-- where a text ends in a mark and a number, that is what its last mark cuts
pub cut_at : (mark : ℕ) (text : List ℕ) (place : ℕ) (front : List ℕ) (n : ℕ) → 10 ≤ digit_value mark → place < length text → get_or text place 0 ≡ mark → Lacks mark (drop (place + 1) text) → n < 2 ^ 16 → text ≡ front ++ mark ∷ [] ++ decimal n → (take place text ≡ front) × (take (length text - (place + 1)) (drop (place + 1) text) ≡ decimal n)
cut_at mark text place front n above within marked lacks small spelled =
    let marks : drop place text ≡ mark ∷ drop (place + 1) text = rw add-one (drop-cons text place 0 within ∙ ap (λ octet. octet ∷ drop (suc place) text) marked) in
    let cut : take place text ++ mark ∷ drop (place + 1) text ≡ text = rw (← marks) (take-append-drop place text) in
    let (before, after) = last_mark-one mark (take place text) front (drop (place + 1) text) (decimal n) lacks (decimal-lacks mark n above small) (cut ∙ spelled ∙ append_assoc front (mark ∷ []) (decimal n)) in
    (before, take_rest text (place + 1) ∙ after)
