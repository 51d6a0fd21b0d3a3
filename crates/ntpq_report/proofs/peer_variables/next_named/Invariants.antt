use Rattle.std.proofs.Common.{◌≡◌, drop}
use Rattle.ntpq_report.specs.Peers.{items_named}
use Rattle.ntpq_report.proofs.peer_variables.next_named.Given as goal

abbrev pub invariant-loop-place : goal.invariant-loop-place
invariant-loop-place l = items_named l.name (drop l.from l.items) ≡ items_named l.name (drop l.place l.items)
