use Rattle.std.proofs.Common.{subst, ◌∙◌}
use Rattle.wheel.specs.DueTimes.{IsFirstDue}
use Rattle.wheel.proofs.PassingLemmas.{found_first}
use Rattle.wheel.proofs.due_times.Wheel.take_due.Goals as goal

pub returns-clause-first : goal.returns-clause-first
returns-clause-first c =
    subst (λ due. IsFirstDue due c.args.now c.in_ok-first.first.key) (c.deref.ensures.value ∙ c.self.view_is)
    (found_first c.deref.result.now c.args.now c.in_ok-first.first c.in_ok-first.ensures)
