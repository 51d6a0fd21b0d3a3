use Rattle.std.proofs.Common.{◌≡◌, ◌≤◌, ◌^◌, ◌++◌, List, length, ◌+◌}
use Rattle.std.specs.Vec.{vec_capacity}
use Rattle.std.specs.Vec.Iter.{into_iter_items}
use Rattle.turnstile.specs.Histories.{shares_of}
use Rattle.responders.specs.Jobs.{AreSeated, seats_of}
use Rattle.responders.proofs.opening.board.Given as goal

-- where the workers that are left get seats, all have them
abbrev pub invariant-loop-worker : goal.invariant-loop-worker
invariant-loop-worker g l = record {
  seated : (more : List _) → AreSeated l.initial.first (into_iter_items l.worker-iterator) more
      → AreSeated l.initial.first (into_iter_items l.initial.worker-iterator) (l.jobs.items ++ more);
  first : l.first ≡ record l.initial.first { share = l.first.share };
  shares : shares_of (seats_of l.jobs.items) + l.first.share ≡ l.initial.first.share;
  enough : 2 ^ (length (into_iter_items l.worker-iterator) + 1) ≤ l.first.share;
  room : length l.jobs.items + length (into_iter_items l.worker-iterator) ≤ vec_capacity l.jobs;
}
