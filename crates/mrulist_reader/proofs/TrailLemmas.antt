-- How the pairs that were told are cut.
use Rattle.std.proofs.Common.{◌≡◌, ℕ, ◌-◌, ◌<◌, ◌≤◌, Bool, true, false, ◌||◌, if◌then◌else◌, List, [], ◌∷◌, ◌++◌, length, take, get_or, refl, sym, ap, ◌∙◌, arith}
use Rattle.std.proofs.lemmas.List.{take_more}
use Rattle.std.specs.List.{list_any}
use Rattle.mru_items.specs.declared.pair.Pair.{Pair}
use Rattle.mrulist_reader.specs.Readers.{same_pair, up_to_last}

-- a test that passes at the end passes somewhere
any-last : (p : Pair → Bool) (xs : List Pair) (x : Pair) → p x ≡ true → list_any p (xs ++ x ∷ []) ≡ true
any-last p [] x is = rw is refl
any-last p (y ∷ xs) x is = rw (any-last p xs x is) (elim (p y) as (λ b. (b || true) ≡ true) [ true ↦ refl | false ↦ refl ])

-- where the last pair is this one, all are kept
up_to_last-here : (pair : Pair) (xs : List Pair) (x : Pair) → same_pair pair x ≡ true → up_to_last pair (xs ++ x ∷ []) ≡ xs ++ x ∷ []
up_to_last-here pair [] x is = rw is refl
up_to_last-here pair (y ∷ xs) x is = rw (any-last (same_pair pair) xs x is) (ap (λ (rest : List Pair). y ∷ rest) (up_to_last-here pair xs x is))

-- the last pair is not this one, so it passes the test where another does
any-other : (p : Pair → Bool) (xs : List Pair) (x : Pair) → p x ≡ false → list_any p (xs ++ x ∷ []) ≡ list_any p xs
any-other p [] x is = rw is refl
any-other p (y ∷ xs) x is = ap (λ (b : Bool). p y || b) (any-other p xs x is)

-- where the last pair is not this one, it is cut off
up_to_last-apart : (pair : Pair) (xs : List Pair) (x : Pair) → same_pair pair x ≡ false → up_to_last pair (xs ++ x ∷ []) ≡ up_to_last pair xs
up_to_last-apart pair [] x is = rw is refl
up_to_last-apart pair (y ∷ xs) x is =
    rw (any-other (same_pair pair) xs x is) (ap (λ (rest : List Pair). if list_any (same_pair pair) xs then y ∷ rest else (if same_pair pair y then y ∷ [] else [])) (up_to_last-apart pair xs x is))

-- the pairs up to a place whose last one is this
pub up_to_last-found : (pair : Pair) (trail : List Pair) (count : ℕ) (d : Pair) → 0 < count → count ≤ length trail → same_pair pair (get_or trail (count - 1) d) ≡ true → up_to_last pair (take count trail) ≡ take count trail
up_to_last-found pair trail count d some within is =
    let e : take count trail ≡ take (count - 1) trail ++ get_or trail (count - 1) d ∷ [] =
    ap (λ (n : ℕ). take n trail) (omega arith) ∙ take_more trail (count - 1) d (omega arith) in
    ap (up_to_last pair) e ∙ up_to_last-here pair (take (count - 1) trail) (get_or trail (count - 1) d) is ∙ sym e

-- the pairs up to a place whose last one is not this
pub up_to_last-passed : (pair : Pair) (trail : List Pair) (count : ℕ) (d : Pair) → 0 < count → count ≤ length trail → same_pair pair (get_or trail (count - 1) d) ≡ false → up_to_last pair (take count trail) ≡ up_to_last pair (take (count - 1) trail)
up_to_last-passed pair trail count d some within is =
    let e : take count trail ≡ take (count - 1) trail ++ get_or trail (count - 1) d ∷ [] =
    ap (λ (n : ℕ). take n trail) (omega arith) ∙ take_more trail (count - 1) d (omega arith) in
    ap (up_to_last pair) e ∙ up_to_last-apart pair (take (count - 1) trail) (get_or trail (count - 1) d) is
