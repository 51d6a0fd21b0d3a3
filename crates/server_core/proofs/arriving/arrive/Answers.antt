use Rattle.std.proofs.Common.{arith}
use Rattle.recency.proofs.ArrivalLemmas.{AreBefore-later}
use Rattle.server_core.proofs.VerdictLemmas.{AreUpTo-rows_at}
use Rattle.server_core.proofs.arriving.arrive.Goals as goal

pub returns-clause-listed : goal.returns-clause-listed
returns-clause-listed g c =
    let before = AreBefore-later _ c.max-drawn.result _ (omega (arith, c.max-drawn.ensures)) c.requires.listed.up_to in
    record {
      kept = c.touch_and_judge.ensures.kept;
      up_to = rw c.in_ok-verdict.ensures.rows (AreUpTo-rows_at c.args.rec.now (g.R.Recency.limits c.args.list.now) _ c.max-drawn.result c.args.ask.now before);
    }
