use Rattle.std.proofs.Common.{◌≡◌}
use Rattle.turnstile.proofs.tests.add_often.Given as goal

abbrev pub invariant-loop : goal.invariant-loop
invariant-loop g l = (l.seat.door ≡ l.initial.seat.door) × (l.seat.share ≡ l.initial.seat.share)
