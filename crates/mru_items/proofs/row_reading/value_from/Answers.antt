use Rattle.std.proofs.Common.{ℕ, List, Option, sym, subst, arith}
use Rattle.mru_items.specs.Answers.{Among}
use Rattle.mru_items.specs.Names.{numbered, values_of}
use Rattle.mru_items.proofs.NameLemmas.{no_item}
use Rattle.mru_items.proofs.RowLemmas.{among-none}
use Rattle.mru_items.proofs.row_reading.value_from.Goals as goal

pub returns-in-Some-clause-found : goal.returns-in-Some-clause-found
returns-in-Some-clause-found c =
    let here = c.place_of-at.ensures.found no_item (omega arith) in
    let named = rw (c.as_slice.ensures.value, c.in_ok-name.ensures) at here in
    let values = values_of (numbered c.args.word.now c.args.number) c.args.items.now in
    subst (λ (value : Option (List ℕ)). Among values value) (sym (c.in-Some.ensures no_item)) named

pub returns-clause-bad : goal.returns-clause-bad
returns-clause-bad c =
    let here = c.place_of-at.ensures.found no_item (omega arith) in
    let named = rw (c.as_slice.ensures.value, c.in_ok-name.ensures) at here in
    let values = values_of (numbered c.args.word.now c.args.number) c.args.items.now in
    λ _. among-none values (subst (λ (value : Option (List ℕ)). Among values value) (sym (c.in-None.ensures no_item)) named)
