use Rattle.std.proofs.Common.{◌∙◌, ℕ, ap, subst, arith}
use Rattle.server_core.specs.declared.op.Op.TheVariants.{Publish}
use Rattle.pilot.specs.Gains.{IsCounted}
use Rattle.pilot.specs.Turns.{numbered}
use Rattle.pilot.specs.Views.{HelmParts}
use Rattle.pilot.proofs.StepLemmas.{GivesAt-called, GivesAt-lacking}
use Rattle.pilot.proofs.helm.Helm.give_record.Goals as goal

pub returns-in-Err-clause-gives : goal.returns-in-Err-clause-gives
returns-in-Err-clause-gives g c = λ opening is.
    GivesAt-lacking opening c.args.basis.now c.args.who c.args.self.now c.count_left.new.self c.args.seat.now
    (omega (arith, ap (λ (h : HelmParts). h.steering.epoch) c.self.view_is, c.if-self.false, c.self.ranges))
    (c.count_left.ensures.steering_kept ∙ ap (λ (h : HelmParts). numbered h.steering) c.self.view_is)
    (c.count_left.ensures.outside_kept ∙ ap (λ (h : HelmParts). h.outside) c.self.view_is)
    (subst (λ (left : ℕ). IsCounted 1 left c.count_left.new.self.left) (ap (λ (h : HelmParts). h.left) c.self.view_is) c.count_left.ensures.left)

pub returns-in-Ok-clause-gives : goal.returns-in-Ok-clause-gives
returns-in-Ok-clause-gives g c = λ opening is.
    GivesAt-called opening c.args.basis.now c.args.who (Publish c.in-Ok.record) c.call.result c.args.self.now _ c.args.seat.now c.call.new.seat
    (omega (arith, ap (λ (h : HelmParts). h.steering.epoch) c.self.view_is, c.if-self.false, c.self.ranges))
    (ap (λ (h : HelmParts). numbered h.steering) c.self.view_is)
    (ap (λ (h : HelmParts). h.outside) c.self.view_is)
    (ap (λ (h : HelmParts). h.left) c.self.view_is)
    c.in-Ok.ensures
    (c.call.ensures.called opening is)
