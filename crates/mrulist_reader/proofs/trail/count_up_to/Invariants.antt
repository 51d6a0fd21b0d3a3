use Rattle.std.proofs.Common.{◌≡◌, ◌≤◌, length, take}
use Rattle.mrulist_reader.specs.Readers.{up_to_last}
use Rattle.mrulist_reader.proofs.trail.count_up_to.Given as goal

abbrev pub invariant-loop-count : goal.invariant-loop-count
invariant-loop-count l = record {
  within : l.count ≤ length l.trail;
  left : up_to_last l.pair (take l.count l.trail) ≡ up_to_last l.pair l.trail;
}

abbrev pub decreases-loop-count : goal.decreases-loop-count
decreases-loop-count l = l.count
