-- In an ascending list, the elements that pass a test which holds downward are the first ones.
use Rattle.std.proofs.Common.{◌≡◌, ℕ, zero, suc, ◌+◌, ◌<◌, ◌≤◌, Bool, true, false, cond, List, [], ◌∷◌, length, get_or, refl, sym, ap, ◌∙◌, arith}
use Rattle.std.specs.Prelude.{count_by}
use Rattle.std.specs.List.{All}
use Rattle.std.specs.List.Sorted.{IsNonDecreasing}
use Rattle.std.proofs.lemmas.List.Elements.{All-head, All-tail}
use Rattle.std.proofs.lemmas.List.Sums.{sum_by-cons}

-- what stands behind the head is in order
tail_sorted : (x : ℕ) (xs : List ℕ) → IsNonDecreasing (x ∷ xs) → IsNonDecreasing xs
tail_sorted x xs up i j d below inside = up (suc i) (suc j) d (omega arith) (omega arith)

module _ (p : ℕ → Bool) where
  -- one element more is counted, or not
  count_cons : (x : ℕ) (xs : List ℕ) (b : Bool) → p x ≡ b → count_by p (x ∷ xs) ≡ cond b 1 0 + count_by p xs
  count_cons x xs b e = sum_by-cons (λ y. cond (p y) 1 0) x xs ∙ ap (λ c. cond c 1 0 + count_by p xs) e

  -- no element passes
  count_none : (xs : List ℕ) → All (λ x. p x ≡ false) xs → count_by p xs ≡ 0
  count_none [] none = refl
  count_none (x ∷ xs) none =
      let rest = count_none xs (All-tail (λ y. p y ≡ false) x xs none) in
      count_cons x xs false (All-head (λ y. p y ≡ false) x xs none) ∙ omega (arith, rest)

module _ (p : ℕ → Bool) (down : (a b : ℕ) → a ≤ b → p b ≡ true → p a ≡ true) where
  fails_above : (a b : ℕ) (r : Bool) → p b ≡ r → a ≤ b → p a ≡ false → p b ≡ false
  fails_above a b true passes below fails =
      let both : true ≡ false = sym (down a b below passes) ∙ fails in
      cc
  fails_above a b false passes below fails = passes

  -- where the head fails, no element passes
  none_behind : (x : ℕ) (xs : List ℕ) → IsNonDecreasing (x ∷ xs) → p x ≡ false → All (λ y. p y ≡ false) (x ∷ xs)
  none_behind x xs up fails k d inside =
      fails_above x (get_or (x ∷ xs) k d) (p (get_or (x ∷ xs) k d)) refl (up zero k d (omega arith) inside) fails

  rank_below_step : (x : ℕ) (xs : List ℕ) → IsNonDecreasing (x ∷ xs) → ((j : ℕ) → j < length xs → p (get_or xs j 0) ≡ true → j < count_by p xs) → (b : Bool) → p x ≡ b → (j : ℕ) → j < length (x ∷ xs) → p (get_or (x ∷ xs) j 0) ≡ true → j < count_by p (x ∷ xs)
  rank_below_step x xs up rest true e zero inside passes = omega (arith, count_cons p x xs true e)
  rank_below_step x xs up rest true e (suc j) inside passes =
      omega (arith, count_cons p x xs true e, rest j (omega arith) passes)
  rank_below_step x xs up rest false e j inside passes =
      let both : true ≡ false = sym passes ∙ none_behind x xs up e j 0 inside in
      cc

  -- an element that passes stands below the count
  pub rank_below : (xs : List ℕ) → IsNonDecreasing xs → (j : ℕ) → j < length xs → p (get_or xs j 0) ≡ true → j < count_by p xs
  rank_below [] up j inside passes = absurd (omega arith)
  rank_below (x ∷ xs) up j inside passes =
      rank_below_step x xs up (rank_below xs (tail_sorted x xs up)) (p x) refl j inside passes

  passes_below_step : (x : ℕ) (xs : List ℕ) → IsNonDecreasing (x ∷ xs) → ((j : ℕ) → j < count_by p xs → p (get_or xs j 0) ≡ true) → (b : Bool) → p x ≡ b → (j : ℕ) → j < count_by p (x ∷ xs) → p (get_or (x ∷ xs) j 0) ≡ true
  passes_below_step x xs up rest true e zero below = e
  passes_below_step x xs up rest true e (suc j) below = rest j (omega (arith, count_cons p x xs true e))
  passes_below_step x xs up rest false e j below =
      absurd (omega (arith, count_none p (x ∷ xs) (none_behind x xs up e)))

  -- and one below the count passes
  pub passes_below : (xs : List ℕ) → IsNonDecreasing xs → (j : ℕ) → j < count_by p xs → p (get_or xs j 0) ≡ true
  passes_below [] up j below = absurd (omega arith)
  passes_below (x ∷ xs) up j below =
      passes_below_step x xs up (passes_below xs (tail_sorted x xs up)) (p x) refl j below
