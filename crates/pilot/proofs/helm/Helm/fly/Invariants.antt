use Rattle.std.proofs.Common.{◌≡◌, Some}
use Rattle.server_core.specs.States.{ServerState}
use Rattle.pilot.specs.Steps.{TakesTurns}
use Rattle.pilot.specs.Views.{Stays}
use Rattle.pilot.proofs.helm.Helm.fly.Given as goal

-- so far no turn made an end
abbrev pub invariant-flying : goal.invariant-flying
invariant-flying g l = record {
  turns : (opening : ServerState) → l.initial.seat.opening ≡ Some opening → TakesTurns opening l.keys l.basis l.who l.initial.self l.initial.seat l.self l.seat;
  stays : Stays l.initial.self l.initial.seat l.self l.seat;
}
