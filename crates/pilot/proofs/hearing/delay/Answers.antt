use Rattle.std.proofs.Common.{◌∙◌, ℕ, List, Option, ap, refl, slice_set}
use Rattle.associations.specs.declared.due_times.NextRequest.TheVariants.{AsBefore, Due}
use Rattle.pilot.specs.declared.steering.Steering.{Steering}
use Rattle.pilot.proofs.StepLemmas.{IsDelayed-put_by}
use Rattle.pilot.proofs.hearing.delay.Goals as goal

pub returns-in-Due-clause-delayed : goal.returns-in-Due-clause-delayed
returns-in-Due-clause-delayed c =
    IsDelayed-put_by c.args.at c.args.steering.now c.args.peer c.args.fault (Due c.in-Due.next) _ c.requires.there c.in-Due.ensures.put_off c.in-Due.ensures.as_before
    (ap (λ (due : List (Option ℕ)). let s : Steering = record c.args.steering.now { due = due } in s)
    (c.put.ensures ∙ ap (λ (key : ℕ). slice_set c.args.steering.now.due key c.in-Due.next) c.from.ensures))

pub returns-in-AsBefore-clause-delayed : goal.returns-in-AsBefore-clause-delayed
returns-in-AsBefore-clause-delayed c =
    IsDelayed-put_by c.args.at c.args.steering.now c.args.peer c.args.fault AsBefore _ c.requires.there c.in-AsBefore.ensures.put_off c.in-AsBefore.ensures.as_before refl
