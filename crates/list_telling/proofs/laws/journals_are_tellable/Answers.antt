use Rattle.std.proofs.Common.{refl, arith}
use Rattle.list_telling.proofs.WidthLemmas.{HasWidths, all-at_end, moments-all, one-more, tellable-all}
use Rattle.list_telling.proofs.laws.journals_are_tellable.Goals as goal

pub loop-place-init : goal.loop-place-init
loop-place-init c = tt

pub loop-place-preserved : goal.loop-place-preserved
loop-place-preserved c =
    one-more HasWidths c.args.journal.now c.loop-place.place _ c.get.result.now refl c.loop-place.invariant c.get.ensures (c.is_tellable.ensures.tellable, c.is_tellable.ensures.moment)

pub returns-clause-tellable : goal.returns-clause-tellable
returns-clause-tellable c = tellable-all c.args.journal.now (all-at_end HasWidths c.args.journal.now c.loop-place.place (omega (arith, c.loop-place-test.false, c.loop-place.auto.place-end, c.len-place-end.ensures)) c.loop-place.invariant)

pub returns-clause-moments : goal.returns-clause-moments
returns-clause-moments c = moments-all c.args.journal.now (all-at_end HasWidths c.args.journal.now c.loop-place.place (omega (arith, c.loop-place-test.false, c.loop-place.auto.place-end, c.len-place-end.ensures)) c.loop-place.invariant)
