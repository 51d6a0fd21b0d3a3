use Rattle.std.proofs.Common.{◌≡◌, ◌+◌, ◌++◌, drop}
use Rattle.ntpq_report.specs.Associations.{as_text, association_lines}
use Rattle.ntpq_report.proofs.association_report.text_of.Given as goal

abbrev pub invariant-loop-place : goal.invariant-loop-place
invariant-loop-place l =
    l.text.items ++ association_lines (l.place + 1) (drop l.place l.associations) ≡ as_text l.associations
