use Rattle.std.proofs.Common.{◌≡◌, ◌*◌, take}
use Rattle.std.specs.List.{AllByRecursion}
use Rattle.ntpq_report.specs.declared.associations.TheConstants.{ASSOCIATION_LEN}
use Rattle.ntpq_report.specs.Associations.{FitsAssociation, status_body}
use Rattle.ntpq_report.proofs.associations.named_in.Given as goal

abbrev pub invariant-loop-place : goal.invariant-loop-place
invariant-loop-place l = record {
  fits : AllByRecursion FitsAssociation l.kept.items;
  spelled : take (ASSOCIATION_LEN * l.place) l.body ≡ status_body l.kept.items;
}
