use Rattle.std.proofs.Common.{◌≡◌, ◌++◌, drop}
use Rattle.ntpq_report.specs.Variables.{item_lines, rv_text}
use Rattle.ntpq_report.proofs.variables.rv_report.Given as goal

abbrev pub invariant-loop-place : goal.invariant-loop-place
invariant-loop-place l = l.text.items ++ item_lines (drop l.place l.items) ≡ rv_text l.assoc l.status l.items
