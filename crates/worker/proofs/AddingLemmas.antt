-- Places that climb, and what is told and counted, as they add up.
use Rattle.std.proofs.Common.{◌≡◌, ℕ, ◌+◌, ◌≤◌, Bool, cond, Option, Some, None, List, [], ◌∷◌, ◌++◌, length, refl, ap, sym, ◌∙◌, arith, append_assoc}
use Rattle.std.specs.List.{count_by}
use Rattle.std.proofs.lemmas.List.{append-nil}
use Rattle.std.proofs.lemmas.List.Sums.{sum_by-append}
use mathlib.Core.List.{IsPrefix}
use Rattle.edge_traits.specs.Told.{gained, Grows, Rose}
use Rattle.worker.specs.Acts.{Climbs}

-- of two fronts of one list the shorter is a front of the longer
pub prefix_shorter : {A : Type 0} (xs ys zs : List A) → IsPrefix xs zs → IsPrefix ys zs → length xs ≤ length ys → IsPrefix xs ys
prefix_shorter [] ys zs first second shorter = (ys, refl)
prefix_shorter (x ∷ xs) [] zs first second shorter = absurd (omega arith)
prefix_shorter (x ∷ xs) (y ∷ ys) [] first second shorter = absurd (cc (first.1))
prefix_shorter (x ∷ xs) (y ∷ ys) (z ∷ zs) first second shorter =
    let heads : x ≡ y = cc (first.1, second.1) in
    let rest = prefix_shorter xs ys zs (first.0, cc (first.1)) (second.0, cc (second.1)) (omega arith) in
    (rest.0, cc (heads, rest.1))

-- places that climb from further on climb from before
pub Climbs-lower : (low mid high : ℕ) (places : List ℕ) → low ≤ mid → Climbs mid places high → Climbs low places high
Climbs-lower low mid high [] first second = omega arith
Climbs-lower low mid high (place ∷ places) first second = (omega arith, second.1)

-- places that climb, and then climb on
pub Climbs-then : (low mid high : ℕ) (first second : List ℕ) → Climbs low first mid → Climbs mid second high → Climbs low (first ++ second) high
Climbs-then low mid high [] second one two = Climbs-lower low mid high second one two
Climbs-then low mid high (place ∷ places) second one two = (one.0, Climbs-then (place + 1) mid high places second one.1 two)

-- how many pass a test adds up
pub count-then : {A : Type 0} (test : A → Bool) (xs ys : List A) → count_by test (xs ++ ys) ≡ count_by test xs + count_by test ys
count-then test xs ys = sum_by-append (λ x. cond (test x) 1 0) xs ys

-- what rose, and rose again
pub Rose-then : (n m old mid new : ℕ) → Rose n old mid → Rose m mid new → Rose (n + m) old new
Rose-then n m old mid new first second = omega arith

-- what did not fall
pub Rose-kept : (old new : ℕ) → old ≤ new → Rose 0 old new
Rose-kept old new kept = omega arith

-- nothing gained
pub gained-nothing : {A : Type 0} (told : Option (List A)) → told ≡ gained told []
gained-nothing None = refl
gained-nothing (Some told) = sym (ap Some (append-nil told))

-- no reading
pub Grows-nothing : (told : Option (List ℕ)) → Grows told told []
Grows-nothing None = tt
Grows-nothing (Some told) = sym (append-nil told)

-- readings that grew twice grew by both
pub Grows-then : (old mid new : Option (List ℕ)) (first second : List ℕ) → Grows old mid first → Grows mid new second → Grows old new (first ++ second)
Grows-then old mid None first second one two = tt
Grows-then old None (Some new) first second one two = absurd two
Grows-then None (Some mid) (Some new) first second one two = absurd one
Grows-then (Some old) (Some mid) (Some new) first second one two =
    two ∙ ap (λ (told : List ℕ). told ++ second) one ∙ append_assoc old first second
