use Rattle.std.proofs.Common.{sym, ap, ◌∙◌}
use Rattle.ntpq_report.specs.Associations.{status_body}
use Rattle.ntpq_report.proofs.AssociationLemmas.{FitsAssociation-push, status_body-step}
use Rattle.ntpq_report.proofs.associations.named_in.Goals as goal

pub loop-place-preserved : goal.loop-place-preserved
loop-place-preserved c = record {
  fits = rw c.in_ok-push.ensures.items (FitsAssociation-push c.loop-place.kept.items c.association_at.result c.loop-place.invariant.fits c.association_at.ensures.fits);
  spelled =
      status_body-step c.args.body.now c.loop-place.kept.items c.association_at.result c.loop-place.place c.loop-place.invariant.spelled c.association_at.ensures.spelled
      ∙ sym (ap status_body c.in_ok-push.ensures.items);
}
