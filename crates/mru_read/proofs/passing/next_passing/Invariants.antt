use Rattle.std.proofs.Common.{◌≤◌, ◌+◌, ◌*◌, length}
use Rattle.mru_read.specs.Walks.{IsListed, left_after}
use Rattle.mru_read.proofs.WalkLemmas.{IsSkipped}
use Rattle.mru_read.proofs.passing.next_passing.Given as goal

-- no row passes between the first place and this one, and each was one read
abbrev pub invariant-loop-row : goal.invariant-loop-row
invariant-loop-row g l = record {
  listed : IsListed (g.R.Recency.rows l.list) l.place;
  skipped : IsSkipped l.wanted (left_after (g.R.Recency.rows l.list) l.initial.place) (left_after (g.R.Recency.rows l.list) l.place);
  counted : l.initial.steps ≤ l.steps;
  cost : l.steps + length (left_after (g.R.Recency.rows l.list) l.place) * g.R.Recency.newer_steps l.list
      ≤ l.initial.steps + length (left_after (g.R.Recency.rows l.list) l.initial.place) * g.R.Recency.newer_steps l.list;
}

abbrev pub decreases-loop-row : goal.decreases-loop-row
decreases-loop-row g l = length (left_after (g.R.Recency.rows l.list) l.place)
