use Rattle.recency.proofs.RowLemmas.{AreUpTo-told}
use Rattle.acceptance_lists.proofs.tests.Stamped.tell.Goals as goal

pub invariant_of-self : goal.invariant_of-self
invariant_of-self g c =
    record { up_to = rw c.tell.ensures.rows (AreUpTo-told c.args.self.now.stamp (g.R.Recency.rows c.args.self.now.list) c.args.ip.now c.args.self.now.stamp c.args.self.now.up_to) }
