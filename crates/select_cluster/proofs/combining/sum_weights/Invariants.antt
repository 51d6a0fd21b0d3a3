use Rattle.std.proofs.Common.{◌≡◌, ◌≤◌, ◌*◌, ◌^◌, sum_by, take}
use Rattle.select_cluster.specs.Combining.{weight_of}
use Rattle.select_cluster.proofs.combining.sum_weights.Given as goal

abbrev pub invariant-loop-candidate : goal.invariant-loop-candidate
invariant-loop-candidate l = record {
  summed : l.weights ≡ sum_by weight_of (take l.candidate-index l.candidates);
  bounded : l.weights ≤ l.candidate-index * 2 ^ 48;
}
