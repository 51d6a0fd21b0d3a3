use Rattle.select_cluster.proofs.CombiningLemmas.{IsPartial}
use Rattle.select_cluster.proofs.combining.sum_offsets.Given as goal

abbrev pub invariant-loop-candidate : goal.invariant-loop-candidate
invariant-loop-candidate l = IsPartial l.candidates l.candidate-index l.total
