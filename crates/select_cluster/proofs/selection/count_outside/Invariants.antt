use Rattle.std.proofs.Common.{◌≡◌, ◌≤◌, take}
use Rattle.select_cluster.specs.Selecting.{outside}
use Rattle.select_cluster.proofs.selection.count_outside.Given as goal

abbrev pub invariant-loop-candidate : goal.invariant-loop-candidate
invariant-loop-candidate l = record {
  counted : l.count ≡ outside l.interval.lo l.interval.hi (take l.candidate-index l.candidates);
  fits : l.count ≤ l.candidate-index;
}
