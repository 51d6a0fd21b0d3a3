use Rattle.std.proofs.Common.{◌≡◌, ◌≤◌, ◌++◌, length, ◌+◌}
use Rattle.std.specs.Vec.{vec_capacity}
use Rattle.std.specs.Vec.Iter.{into_iter_items}
use Rattle.responders.specs.Jobs.{seats_of, workers_of}
use Rattle.responders.proofs.closing.part.Given as goal

-- what is parted and what is left are the whole
abbrev pub invariant-loop-job : goal.invariant-loop-job
invariant-loop-job g l = record {
  workers : l.workers.items ++ workers_of (into_iter_items l.job-iterator) ≡ workers_of (into_iter_items l.initial.job-iterator);
  seats : l.seats.items ++ seats_of (into_iter_items l.job-iterator) ≡ seats_of (into_iter_items l.initial.job-iterator);
  room_for_workers : length l.workers.items + length (into_iter_items l.job-iterator) ≤ vec_capacity l.workers;
  room_for_seats : length l.seats.items + length (into_iter_items l.job-iterator) ≤ vec_capacity l.seats;
}
