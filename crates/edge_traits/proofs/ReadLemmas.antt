-- How what reads take from a source adds up.
use Rattle.std.proofs.Common.{◌≡◌, ℕ, ◌+◌, ◌≤◌, Option, Some, None, List, ◌++◌, length, take, drop, refl, sym, ap, ◌∙◌, subst, append_assoc, arith, length-append}
use Rattle.std.proofs.lemmas.List.{drop_at, drop-drop, length-take-le, take_at, take-append-drop}
use Rattle.edge_traits.specs.Reads.{preceded, Passed}

-- octets that came one after the other came together
preceded-preceded : (first second : List ℕ) (rest : Option (List ℕ)) → preceded first (preceded second rest) ≡ preceded (first ++ second) rest
preceded-preceded first second None = refl
preceded-preceded first second (Some rest) = ap Some (sym (append_assoc first second rest))

-- octets that came before the rest have come
Passed-preceded : (octets : List ℕ) (rest : Option (List ℕ)) → Passed (length octets) (preceded octets rest) rest
Passed-preceded octets None = refl
Passed-preceded octets (Some rest) =
    (omega (arith, length-append octets rest), ap Some (sym (drop_at octets rest (length octets) refl)))

-- after one more read of `n` octets these have come as well
pub Passed-more : (k n : ℕ) (octets into : List ℕ) (old between new : Option (List ℕ)) → old ≡ preceded octets between → between ≡ preceded (take n into) new → n ≤ length into → k ≡ length octets + n → Passed k old new
Passed-more k n octets into old between new before now within all =
    let both : List ℕ = octets ++ take n into in
    let same : old ≡ preceded both new = before ∙ ap (preceded octets) now ∙ preceded-preceded octets (take n into) new in
    let count : length both ≡ k = omega (arith, length-append octets (take n into), length-take-le n into within, all) in
    subst (λ m. Passed m old new) count (subst (λ o. Passed (length both) o new) (sym same) (Passed-preceded both new))

-- the octets from a place on are those that one read copied there, and then those from the next place on
pub drop-copied : (given n : ℕ) (octets copied kept : List ℕ) → copied ≡ take n (drop given octets) → length copied ≡ n → drop given octets ≡ take n (copied ++ kept) ++ drop (given + n) octets
drop-copied given n octets copied kept is count =
    sym
    (ap (λ xs. xs ++ drop (given + n) octets) (take_at copied kept n count ∙ is)
    ∙ ap (λ xs. take n (drop given octets) ++ xs) (sym (drop-drop n given octets))
    ∙ take-append-drop n (drop given octets))
