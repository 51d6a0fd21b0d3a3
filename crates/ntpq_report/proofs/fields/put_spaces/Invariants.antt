use Rattle.std.proofs.Common.{◌≡◌, ◌++◌, replicate}
use Rattle.ntpq_report.specs.Fields.{space}
use Rattle.ntpq_report.proofs.fields.put_spaces.Given as goal

abbrev pub invariant-loop-place : goal.invariant-loop-place
invariant-loop-place l = l.text.items ≡ l.initial.text.items ++ replicate l._place space
