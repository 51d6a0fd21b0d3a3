use Rattle.std.proofs.Common.{◌≤◌, length}
use Rattle.mru_read.specs.Pages.{rows_from}
use Rattle.mru_read.specs.Sizes.{IsMeasure}
use Rattle.mru_read.specs.Walks.{passing_on, start_at}
use Rattle.mru_read.proofs.TakingLemmas.{IsHad, IsSpent, IsWalk}
use Rattle.mru_read.proofs.taking.taken_rows.Given as goal

-- the rows that are taken may be had, and the next one is found
abbrev pub invariant-loop-next : goal.invariant-loop-next
invariant-loop-next g l = record {
  walk : IsWalk (g.R.Recency.rows l.list) l.request (start_at l.confirmed) l.rows.items l.next l.size;
  had : IsHad (g.R.Recency.rows l.list) l.request (start_at l.confirmed) l.rows.items;
  spent : IsSpent (g.R.Recency.rows l.list) (rows_from (g.R.Recency.rows l.list) (start_at l.confirmed)) l.next l.fn.steps l.steps (g.R.Recency.newer_steps l.list);
  bounds : IsMeasure l.size;
  counted : l.fn.steps ≤ l.steps;
}

abbrev pub decreases-loop-next : goal.decreases-loop-next
decreases-loop-next g l = length (passing_on (g.R.Recency.rows l.list) l.request.filter l.next)
