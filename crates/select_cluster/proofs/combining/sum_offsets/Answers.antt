use Rattle.std.specs.Int.{w128, cast_signed as to_z}
use Rattle.select_cluster.proofs.CombiningLemmas.{partial_more}
use Rattle.select_cluster.proofs.combining.sum_offsets.Goals as goal

pub loop-candidate-preserved : goal.loop-candidate-preserved
loop-candidate-preserved c =
    let one = c.weigh_offset-total.ensures in
    partial_more c.args.candidates.now c.loop-candidate.candidate-index _ (to_z w128 c.loop-candidate.total-bits) c.weigh_offset-total.result
    c.loop-candidate-test.true c.requires c.loop-candidate.invariant
    record { value = one.value; low = one.low; high = one.high; light = one.light; fits = one.fits }
