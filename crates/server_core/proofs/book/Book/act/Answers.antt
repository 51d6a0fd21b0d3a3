use Rattle.recency.proofs.SweepLemmas.{AreUpTo-swept}
use Rattle.server_core.proofs.book.Book.act.Goals as goal

pub invariant_of-self-in-Sweep : goal.invariant_of-self-in-Sweep
invariant_of-self-in-Sweep g c = (
  record {
    kept = c.sweep.ensures.kept;
    up_to = rw c.sweep.ensures.rows (AreUpTo-swept c.self.inside.stamp c.self.inside.list.limits c.self.inside.list.rows c.in-Sweep.moment c.self.invariant.0.up_to);
  },
  c.self.invariant.1,
)
