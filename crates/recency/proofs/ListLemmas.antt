-- What holds of each element of a list, by recursion.
use Rattle.std.proofs.Common.{◌≤◌, Bool, true, false, cond, List, [], ◌∷◌, ◌++◌, length, map, arith}
use Rattle.std.specs.List.{AllByRecursion, filter}

-- of each of two lists, so of both one after another
pub AllByRecursion-append : {X : Type 0} (P : X → Type 0) (xs ys : List X) → AllByRecursion P xs → AllByRecursion P ys → AllByRecursion P (xs ++ ys)
AllByRecursion-append P [] ys these those = those
AllByRecursion-append P (x ∷ xs) ys these those = (these.0, AllByRecursion-append P xs ys these.1 those)

-- of each, so of those that a filter keeps
pub AllByRecursion-filter : {X : Type 0} (P : X → Type 0) (test : X → Bool) (xs : List X) → AllByRecursion P xs → AllByRecursion P (filter test xs)
AllByRecursion-filter P test [] each = tt
AllByRecursion-filter {X} P test (x ∷ xs) each =
    elim (test x) as (λ b. AllByRecursion P (cond b (x ∷ filter test xs) (filter test xs))) [
      | true ↦ (each.0, AllByRecursion-filter P test xs each.1)
      | false ↦ AllByRecursion-filter P test xs each.1
    ]

-- one fact of each, so another one that follows
pub AllByRecursion-weaker : {X : Type 0} (P Q : X → Type 0) → ((x : X) → P x → Q x) → (xs : List X) → AllByRecursion P xs → AllByRecursion Q xs
AllByRecursion-weaker P Q follows [] each = tt
AllByRecursion-weaker P Q follows (x ∷ xs) each = (follows x each.0, AllByRecursion-weaker P Q follows xs each.1)

-- one fact of each, so another one of what a map makes of it
pub AllByRecursion-map : {X Y : Type 0} (P : X → Type 0) (Q : Y → Type 0) (f : X → Y) → ((x : X) → P x → Q (f x)) → (xs : List X) → AllByRecursion P xs → AllByRecursion Q (map f xs)
AllByRecursion-map P Q f follows [] each = tt
AllByRecursion-map P Q f follows (x ∷ xs) each = (follows x each.0, AllByRecursion-map P Q f follows xs each.1)

-- a filter keeps no more elements than there are
pub length-filter-le : {X : Type 0} (test : X → Bool) (xs : List X) → length (filter test xs) ≤ length xs
length-filter-le test [] = omega arith
length-filter-le {X} test (x ∷ xs) =
    let rest = length-filter-le test xs in
    elim (test x) as (λ b. length (cond b (x ∷ filter test xs) (filter test xs)) ≤ length (x ∷ xs)) [ true ↦ omega arith | false ↦ omega arith ]
