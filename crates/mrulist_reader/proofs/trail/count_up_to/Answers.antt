use Rattle.std.proofs.Common.{sym, ◌∙◌, arith}
use Rattle.mrulist_reader.proofs.TrailLemmas.{up_to_last-found, up_to_last-passed}
use Rattle.mrulist_reader.proofs.trail.count_up_to.Goals as goal

pub returns-then-is_same_pair : goal.returns-then-is_same_pair
returns-then-is_same_pair c =
    sym (up_to_last-found c.args.pair.now c.args.trail.now c.loop-count.count _ c.loop-count-test.true c.loop-count.invariant.within (sym c.is_same_pair.ensures ∙ c.if-is_same_pair.true))
    ∙ c.loop-count.invariant.left

pub loop-count-preserved : goal.loop-count-preserved
loop-count-preserved c = record {
  within = omega arith;
  left =
      sym (up_to_last-passed c.args.pair.now c.args.trail.now c.loop-count.count _ c.loop-count-test.true c.loop-count.invariant.within (sym c.is_same_pair.ensures ∙ c.if-is_same_pair.false))
      ∙ c.loop-count.invariant.left;
}
