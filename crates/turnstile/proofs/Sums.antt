-- Sums over what callers know, fronts of a history, and how often a place stands among calls.
use Rattle.std.proofs.Common.{◌≡◌, ℕ, zero, suc, ◌+◌, ◌≤◌, ◌≢◌, List, [], ◌∷◌, ◌++◌, set, sym, refl, ap, ◌∙◌, arith, append_assoc, append-nil, cond}
use Rattle.std.specs.Prelude.{nat_eq, nat_lt}
use Rattle.std.proofs.lemmas.List.Sums.{sum_by-append, sum_by_push}
use Rattle.std.proofs.lemmas.Bool.Decides.{nat_tests}
use mathlib.Core.List.{IsPrefix}
use mathlib.Core.Option.{some, some-injective, some-ne-none}
use lib.ListN.{get_elem?}
use Rattle.turnstile.specs.Histories.{times, once_below}
use Rattle.turnstile.specs.Turns.{total, AreFronts}

module _ {A : Type 0} (f : A → ℕ) where
  pub total_set : (l : List A) (j : ℕ) (v w : A) → get_elem? l j ≡ some v → total f (set l j w) + f v ≡ total f l + f w
  total_set [] j v w e = absurd (some-ne-none v (sym e))
  total_set (x ∷ xs) zero v w e = omega (arith, ap f (some-injective x v e))
  total_set (x ∷ xs) (suc j) v w e = omega (arith, total_set xs j v w e)

  pub total_snoc : (l : List A) (w : A) → total f (l ++ w ∷ []) ≡ total f l + f w
  total_snoc [] w = omega arith
  total_snoc (x ∷ xs) w = omega (arith, total_snoc xs w)

  pub total_le : (g : A → ℕ) (l : List A) → ((j : ℕ) (v : A) → get_elem? l j ≡ some v → f v ≤ g v) → total f l ≤ total g l
  total_le g [] h = omega arith
  total_le g (x ∷ xs) h = omega (arith, h 0 x refl, total_le g xs (λ j v e. h (suc j) v e))

  pub term_le : (l : List A) (j : ℕ) (v : A) → get_elem? l j ≡ some v → f v ≤ total f l
  term_le [] j v e = absurd (some-ne-none v (sym e))
  term_le (x ∷ xs) zero v e = omega (arith, ap f (some-injective x v e))
  term_le (x ∷ xs) (suc j) v e = omega (arith, term_le xs j v e)

  pub terms_le : (l : List A) (j k : ℕ) (v u : A) → k ≢ j → get_elem? l j ≡ some v → get_elem? l k ≡ some u → f v + f u ≤ total f l
  terms_le [] j k v u n e d = absurd (some-ne-none v (sym e))
  terms_le (x ∷ xs) zero zero v u n e d = absurd (n refl)
  terms_le (x ∷ xs) zero (suc k) v u n e d = omega (arith, ap f (some-injective x v e), term_le xs k u d)
  terms_le (x ∷ xs) (suc j) zero v u n e d = omega (arith, ap f (some-injective x u d), term_le xs j v e)
  terms_le (x ∷ xs) (suc j) (suc k) v u n e d = omega (arith, terms_le xs j k v u (λ h. n (ap suc h)) e d)

  none_else : (l : List A) → ((k : ℕ) (u : A) → get_elem? l k ≡ some u → f u ≡ 0) → total f l ≡ 0
  none_else [] h = refl
  none_else (x ∷ xs) h = omega (arith, h 0 x refl, none_else xs (λ k u e. h (suc k) u e))

  -- where the others add nothing, the sum is that of one
  pub total_alone : (l : List A) (j : ℕ) (v : A) → get_elem? l j ≡ some v → ((k : ℕ) (u : A) → k ≢ j → get_elem? l k ≡ some u → f u ≡ 0) → total f l ≡ f v
  total_alone [] j v e h = absurd (some-ne-none v (sym e))
  total_alone (x ∷ xs) zero v e h = omega (arith, ap f (some-injective x v e), none_else xs (λ k u d. h (suc k) u (λ z. omega arith) d))
  total_alone (x ∷ xs) (suc j) v e h = omega (arith, h 0 x (λ z. omega arith) refl, total_alone xs j v e (λ k u n d. h (suc k) u (λ z. n (omega arith)) d))

module _ {P : Type 0} where
  pub prefix_refl : (l : List P) → IsPrefix l l
  prefix_refl l = ([], append-nil l)

  pub prefix_trans : (a b c : List P) → IsPrefix a b → IsPrefix b c → IsPrefix a c
  prefix_trans a b c h k = (h.0 ++ k.0, sym (append_assoc a h.0 k.0) ∙ ap (λ (l : List P). l ++ k.0) h.1 ∙ k.1)

  pub prefix_more : (a b : List P) (x : P) → IsPrefix a b → IsPrefix a (b ++ x ∷ [])
  prefix_more a b x h = prefix_trans a b (b ++ x ∷ []) h (x ∷ [], refl)

  pub fronts_grow : (a b : List P) (fs : List (List P)) → IsPrefix a b → AreFronts a fs → AreFronts b fs
  fronts_grow a b [] h k = tt
  fronts_grow a b (f ∷ fs) h k = (prefix_trans f a b k.0 h, fronts_grow a b fs h k.1)

  pub fronts_both : (a : List P) (fs gs : List (List P)) → AreFronts a fs → AreFronts a gs → AreFronts a (fs ++ gs)
  fronts_both a [] gs h k = k
  fronts_both a (f ∷ fs) gs h k = (h.0, fronts_both a fs gs h.1 k)

  pub fronts_first : (a : List P) (fs gs : List (List P)) → AreFronts a (fs ++ gs) → AreFronts a fs × AreFronts a gs
  fronts_first a [] gs h = (tt, h)
  fronts_first a (f ∷ fs) gs h = let r = fronts_first a fs gs h.1 in ((h.0, r.0), r.1)

pub times_append : (place : ℕ) (xs ys : List ℕ) → times place (xs ++ ys) ≡ times place xs + times place ys
times_append place xs ys = sum_by-append (λ n. cond (nat_eq n place) 1 0) xs ys

one_more : (place n : ℕ) → cond (nat_eq n place) 1 0 + cond (nat_lt place n) 1 0 ≡ cond (nat_lt place (n + 1)) 1 0
one_more place n = grind (arith, nat_tests)

pub times_more : (place n : ℕ) (xs : List ℕ) → times place (xs ++ n ∷ []) + once_below place n ≡ times place xs + once_below place (n + 1)
times_more place n xs = omega (arith, sum_by_push (λ m. cond (nat_eq m place) 1 0) xs n, one_more place n)
