use Rattle.std.proofs.Common.{◌∙◌, ap, refl}
use Rattle.pilot.specs.Steering.{ticked_at}
use Rattle.pilot.specs.Views.{HelmParts}
use Rattle.pilot.proofs.StepLemmas.{GivesAt-from}
use Rattle.pilot.proofs.helm.Helm.tick_and_give.Goals as goal

pub returns-clause-gives : goal.returns-clause-gives
returns-clause-gives g c = λ opening is.
    GivesAt-from opening c.args.basis.now c.args.who c.give_record.result (ticked_at c.args.at c.args.self.now.steering) _ c.args.self.now _ c.give_record.new.self c.args.seat.now c.give_record.new.seat
    c.self.view_is
    (c.tick.ensures ∙ ap (λ (h : HelmParts). ticked_at c.args.at h.steering) c.self.view_is)
    refl refl (c.give_record.ensures.gives opening is)
