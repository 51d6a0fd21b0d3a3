use Rattle.std.proofs.Common.{arith}
use Rattle.std.proofs.lemmas.List.{take_rest}
use Rattle.edge_traits.proofs.ToldLemmas.{gained-take-add}
use Rattle.edge_traits.proofs.sink.write_whole.Goals as goal

pub loop-done-preserved : goal.loop-done-preserved
loop-done-preserved g c = record {
  within = omega (arith, c.in_ok-done.ensures.within);
  told = gained-take-add _ _ _ _ _ _ _ (take_rest c.args.from.now c.loop-done.done) c.loop-done.invariant.told c.in_ok-done.ensures.told;
  kept = omega (arith, c.in_ok-done.ensures.faults_kept);
}
