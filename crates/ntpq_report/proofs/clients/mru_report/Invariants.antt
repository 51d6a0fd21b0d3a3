use Rattle.std.proofs.Common.{◌≡◌, ◌++◌, drop}
use Rattle.std.specs.List.{flat_map}
use Rattle.ntpq_report.specs.Clients.{client_line, mru_report}
use Rattle.ntpq_report.proofs.clients.mru_report.Given as goal

abbrev pub invariant-loop-place : goal.invariant-loop-place
invariant-loop-place l =
    l.text.items ++ flat_map (client_line l.listing.now) (drop l.place l.listing.rows) ≡ mru_report l.listing
