use Rattle.std.proofs.Common.{◌≡◌, Some}
use Rattle.server_core.specs.States.{ServerState}
use Rattle.pilot.specs.Steps.{DoesDeeds}
use Rattle.pilot.specs.Views.{Stays}
use Rattle.pilot.proofs.helm.Helm.do_due.Given as goal

-- so far no record was refused
abbrev pub invariant-doing : goal.invariant-doing
invariant-doing g l = record {
  does : (opening : ServerState) → l.initial.seat.opening ≡ Some opening → DoesDeeds opening l.keys l.basis l.who l.at l.initial.self l.initial.seat l.self l.seat;
  stays : Stays l.initial.self l.initial.seat l.self l.seat;
}
