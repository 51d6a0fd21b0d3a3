use Rattle.std.proofs.Common.{◌<◌, arith}
use Rattle.recency.proofs.ArrivalLemmas.{AreBefore-later, AreUpTo-touched}
use Rattle.acceptance_lists.proofs.tests.Stamped.arrive.Goals as goal

pub touch-requires : goal.touch-requires
touch-requires g c =
    let later : c.args.self.now.stamp < c.max-stamp.result = omega arith in
    AreBefore-later c.args.self.now.stamp c.max-stamp.result (g.R.Recency.rows c.args.self.now.list) later c.args.self.now.up_to

pub invariant_of-self-2 : goal.invariant_of-self-2
invariant_of-self-2 g c =
    let later : c.args.self.now.stamp < c.max-stamp.result = omega arith in
    let before = AreBefore-later c.args.self.now.stamp c.max-stamp.result (g.R.Recency.rows c.args.self.now.list) later c.args.self.now.up_to in
    record { up_to = rw c.in_ok-answer.ensures.rows (AreUpTo-touched (g.R.Recency.limits c.args.self.now.list) (g.R.Recency.rows c.args.self.now.list) c.args.visit.now c.max-stamp.result before) }
