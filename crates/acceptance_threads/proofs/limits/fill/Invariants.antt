use Rattle.std.proofs.Common.{◌≡◌}
use Rattle.acceptance_threads.proofs.limits.fill.Given as goal

abbrev pub invariant-loop : goal.invariant-loop
invariant-loop g l = (l.seat.door ≡ l.initial.seat.door) × (l.seat.share ≡ l.initial.seat.share) × (l.seat.opening ≡ l.initial.seat.opening)
