use Rattle.std.proofs.Common.{◌≡◌, sym, ap, ◌∙◌, length, arith}
use Rattle.recency_links.specs.Lists.{rows_of}
use Rattle.recency_links.proofs.ReadingLemmas.{count-is}
use Rattle.recency_links.proofs.SweptLemmas.{swept-empty}
use Rattle.recency_links.proofs.sweeping.sweep_in.Goals as goal

pub returns-clause-rows : goal.returns-clause-rows
returns-clause-rows g c =
    let done = c.loop-gone.invariant in
    swept-empty c.args.limits.now (rows_of c.loop-gone.links) c.args.moment (omega (arith, sym (count-is done.linked.list), done.count, c.loop-gone-test.false)) ∙ done.swept
