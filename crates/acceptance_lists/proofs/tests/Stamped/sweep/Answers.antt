use Rattle.recency.proofs.SweepLemmas.{AreUpTo-swept}
use Rattle.acceptance_lists.proofs.tests.Stamped.sweep.Goals as goal

pub invariant_of-self : goal.invariant_of-self
invariant_of-self g c =
    record { up_to = rw c.sweep.ensures.rows (AreUpTo-swept c.args.self.now.stamp (g.R.Recency.limits c.args.self.now.list) (g.R.Recency.rows c.args.self.now.list) c.args.self.now.stamp c.args.self.now.up_to) }
