-- How what is told adds up.
use Rattle.std.proofs.Common.{◌≡◌, ℕ, ◌+◌, Option, Some, None, List, ◌++◌, take, drop, refl, ap, sym, ◌∙◌, append_assoc}
use Rattle.std.proofs.Math.Seq.{take-add}
use Rattle.edge_traits.specs.Told.{gained}

-- to gain twice is to gain both
pub gained-gained : {A : Type 0} (told : Option (List A)) (first second : List A) → gained (gained told first) second ≡ gained told (first ++ second)
gained-gained None first second = refl
gained-gained (Some told) first second = ap Some (append_assoc told first second)

-- where a front was gained, and then a front of the rest, the longer front was gained
pub gained-take-add : {A : Type 0} (old between new : Option (List A)) (xs rest : List A) (n m : ℕ) → rest ≡ drop n xs → between ≡ gained old (take n xs) → new ≡ gained between (take m rest) → new ≡ gained old (take (n + m) xs)
gained-take-add old between new xs rest n m is first second =
    second ∙ ap (λ told. gained told (take m rest)) first
    ∙ gained-gained old (take n xs) (take m rest)
    ∙ ap (λ more. gained old (take n xs ++ take m more)) is
    ∙ ap (gained old) (sym (take-add n m xs))
