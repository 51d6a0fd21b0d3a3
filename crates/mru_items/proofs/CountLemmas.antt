-- Numbered names: each number has names of its own, and as many items as numbers leave one item for each.
use Rattle.std.proofs.Common.{◌≡◌, ℕ, zero, suc, ◌+◌, ◌%◌, ◌<◌, ◌≤◌, ◌^◌, true, if◌then◌else◌, nat_lt, inl, inr, List, [], ◌∷◌, ◌++◌, length, take, drop, decimal, bytes_eq, refl, sym, ap, ◌∙◌, arith}
use Rattle.std.specs.Int.{is_in_range}
use Rattle.std.specs.List.{list_all}
use Rattle.std.specs.Prelude.{codes}
use Rattle.std.proofs.Math.Seq.{drop-append_seam, take-append_seam}
use Rattle.std.proofs.lemmas.Bool.{cases_Bool, cases_eq}
use Rattle.std.proofs.lemmas.Bool.Decides.{nat_tests}
use Rattle.std.proofs.lemmas.Fmt.{decimal_by_steps, decimal_injective, decimal_nonempty}
use Rattle.std.proofs.lemmas.List.Folds.{list_all-append}
use Rattle.std.proofs.lemmas.List.Sums.{sum_by-cons}
use Rattle.std.proofs.lemmas.Slice.Eq.{bytes_eq-Decides}
use Rattle.mode6_frame.specs.declared.items.Item.{Item}
use Rattle.mru_items.specs.Answers.{count_numbered}
use Rattle.mru_items.specs.Names.{is_numbered, numbered, values_of}

-- a decimal digit is one
digit-digit : (d : ℕ) → d < 10 → is_in_range 48 57 (48 + d) ≡ true
digit-digit d small = grind (arith, nat_tests)

-- digits and one more
digits-push : (digits : List ℕ) (d : ℕ) → list_all (is_in_range 48 57) digits ≡ true → d < 10 → list_all (is_in_range 48 57) (digits ++ (48 + d) ∷ []) ≡ true
digits-push digits d are small =
    list_all-append (is_in_range 48 57) digits ((48 + d) ∷ []) ∙ rw (are, digit-digit d small) refl

-- a number in decimal is digits
decimal-digits : (n : ℕ) → n < 2 ^ 64 → list_all (is_in_range 48 57) (decimal n) ≡ true
decimal-digits n fits =
    decimal_by_steps (λ m ds. list_all (is_in_range 48 57) ds ≡ true) (λ m one. rw (digit-digit m one) refl)
    (λ m ds ten are. digits-push ds (m % 10) are (omega arith)) n fits

-- a numbered name is one
pub numbered-is : (word : List ℕ) (number : ℕ) → number < 2 ^ 64 → is_numbered word (numbered word number) ≡ true
numbered-is word number fits =
    let front = word ++ codes "." in
    let begins : bytes_eq front (take (length front) (front ++ decimal number)) ≡ true =
    (bytes_eq-Decides front (take (length front) (front ++ decimal number))).1 (sym (take-append_seam front (decimal number))) in
    let some : nat_lt 0 (length (decimal number)) ≡ true = grind (arith, nat_tests, decimal_nonempty number fits) in
    rw (begins, drop-append_seam front (decimal number), some, decimal-digits number fits) refl

-- and has one number
pub numbered-same : (word : List ℕ) (one other : ℕ) → one < 2 ^ 64 → other < 2 ^ 64 → numbered word one ≡ numbered word other → one ≡ other
numbered-same word one other fits other_fits same =
    let front = word ++ codes "." in
    let digits : decimal one ≡ decimal other =
    sym (drop-append_seam front (decimal one)) ∙ ap (drop (length front)) same ∙ drop-append_seam front (decimal other) in
    decimal_injective one other fits other_fits digits

-- the sum of a function of the numbers below one
abbrev pub sum_to : (ℕ → ℕ) → ℕ → ℕ
sum_to f zero = 0
sum_to f (suc n) = sum_to f n + f n

-- whether a name is the numbered one, as a number
abbrev pub hit : List ℕ → List ℕ → ℕ → ℕ
hit word name number = if bytes_eq name (numbered word number) then 1 else 0

-- how many values a number has
abbrev pub hits : List ℕ → List Item → ℕ → ℕ
hits word items number = length (values_of (numbered word number) items)

-- a name that is the numbered one of a number is that of no other
hit-other : (word name : List ℕ) (number other : ℕ) → number < 2 ^ 64 → other < 2 ^ 64 → name ≡ numbered word number → ¬ (other ≡ number)
    → hit word name other ≡ 0
hit-other word name number other fits other_fits is differ =
    elim (cases_Bool (bytes_eq name (numbered word other))) [
      | inl same ↦
          let equal = (bytes_eq-Decides name (numbered word other)).0 same in
          absurd (differ (numbered-same word other number other_fits fits (sym equal ∙ is)))
      | inr not_same ↦ rw not_same refl
    ]

-- so none before it is
hits-before : (word name : List ℕ) (number most : ℕ) → number < 2 ^ 64 → most ≤ number → name ≡ numbered word number → sum_to (hit word name) most ≡ 0
hits-before word name number zero fits below is = refl
hits-before word name number (suc most) fits below is =
    let before = hits-before word name number most fits (omega arith) is in
    let last = hit-other word name number most fits (omega arith) is (λ same. omega (arith, same)) in
    omega (arith, before, last)

-- a name is the numbered one of one number at most, and of none if it is not numbered
hits-few : (word name : List ℕ) (most : ℕ) → most ≤ 2 ^ 64 → sum_to (hit word name) most ≤ (if is_numbered word name then 1 else 0)
hits-few word name zero fits = omega arith
hits-few word name (suc most) fits =
    elim (cases_Bool (bytes_eq name (numbered word most))) [
      | inl same ↦
          let is = (bytes_eq-Decides name (numbered word most)).0 same in
          let before = hits-before word name most most (omega arith) (omega arith) is in
          let numbered_is = ap (is_numbered word) is ∙ numbered-is word most (omega arith) in
          rw (before, same, numbered_is) (omega arith)
      | inr not_same ↦
          let before = hits-few word name most (omega arith) in
          rw not_same (omega (arith, before))
    ]

-- one more item
hits-cons : (word : List ℕ) (item : Item) (items : List Item) (number : ℕ) → hits word (item ∷ items) number ≡ hit word item.name number + hits word items number
hits-cons word item items number =
    elim (cases_Bool (bytes_eq item.name (numbered word number))) [
      | inl same ↦ rw same (omega arith)
      | inr not_same ↦ rw not_same (omega arith)
    ]

-- the sums of two functions
sum_to-add : (f g h : ℕ → ℕ) → ((k : ℕ) → f k ≡ g k + h k) → (n : ℕ) → sum_to f n ≡ sum_to g n + sum_to h n
sum_to-add f g h each zero = refl
sum_to-add f g h each (suc n) = let before = sum_to-add f g h each n in let last = each n in omega (arith, before, last)

-- of nothing
sum_to-zero : (n : ℕ) → sum_to (λ _. 0) n ≡ 0
sum_to-zero zero = refl
sum_to-zero (suc n) = let before = sum_to-zero n in omega (arith, before)

-- the values of all numbers are no more than the numbered items
pub hits-counted : (word : List ℕ) (items : List Item) (most : ℕ) → most ≤ 2 ^ 64 → sum_to (hits word items) most ≤ count_numbered word items
hits-counted word [] most fits = rw (sum_to-zero most) (omega arith)
hits-counted word (item ∷ items) most fits =
    let both = sum_to-add (hits word (item ∷ items)) (hit word item.name) (hits word items) (hits-cons word item items) most in
    let first = hits-few word item.name most fits in
    let rest = hits-counted word items most fits in
    let count = sum_by-cons (λ (it : Item). if is_numbered word it.name then 1 else 0) item items in
    omega (arith, both, first, rest, count)

-- numbers of which each has something
pub sum_to-each : (f : ℕ → ℕ) (n : ℕ) → ((k : ℕ) → k < n → 1 ≤ f k) → n ≤ sum_to f n
sum_to-each f zero each = omega arith
sum_to-each f (suc n) each =
    let before = sum_to-each f n (λ k below. each k (omega arith)) in
    let last = each n (omega arith) in
    omega (arith, before, last)

-- and that have no more together than they are, have one each
pub sum_to-one : (f : ℕ → ℕ) (n : ℕ) → ((k : ℕ) → k < n → 1 ≤ f k) → sum_to f n ≤ n → (k : ℕ) → k < n → f k ≡ 1
sum_to-one f zero each few k below = absurd (omega (arith, below))
sum_to-one f (suc n) each few k below =
    let before = sum_to-each f n (λ j under. each j (omega arith)) in
    let last = each n (omega arith) in
    elim (cases_eq k n) [
      | inl same ↦ rw same (omega (arith, before, last, few))
      | inr other ↦ sum_to-one f n (λ j under. each j (omega arith)) (omega (arith, last, few)) k (omega (arith, other, below))
    ]
