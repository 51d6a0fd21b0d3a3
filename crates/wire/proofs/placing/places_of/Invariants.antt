use Rattle.std.proofs.Common.{◌≡◌, drop}
use Rattle.wire.specs.Kept.{placed}
use Rattle.wire.specs.Placing.{places_in}
use Rattle.wire.proofs.placing.places_of.Given as goal

abbrev pub invariant-loop-event : goal.invariant-loop-event
invariant-loop-event l = placed l.client l.acts l.placing (drop l.event-index l.wire) ≡ places_in l.client l.acts l.wire
