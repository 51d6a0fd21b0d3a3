use Rattle.std.proofs.Common.{◌≡◌, List, ℕ, Some, subst}
use Rattle.std.specs.Prelude.{slice_get}
use Rattle.sys_vars.proofs.NameLemmas.{one_number}
use Rattle.sys_vars.proofs.names.name_number.Goals as goal

pub returns-in-Some-clause-only : goal.returns-in-Some-clause-only
returns-in-Some-clause-only c number is =
    let StandsIn : List (List ℕ) → Type 0 = λ names. slice_get names c.in-Some.place ≡ Some c.args.name.now in
    one_number c.args.assoc c.args.name.now c.in-Some.place number (subst StandsIn c.names_of.ensures.names c.in-Some.ensures) is
