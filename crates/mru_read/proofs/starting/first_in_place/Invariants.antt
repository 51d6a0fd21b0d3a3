use Rattle.std.proofs.Common.{◌≡◌, ◌≤◌, ◌+◌, ◌*◌, drop}
use Rattle.std.specs.Prelude.{find}
use Rattle.mru_read.specs.Pages.{stands_in}
use Rattle.mru_read.proofs.starting.first_in_place.Given as goal

-- no pair before this one stands, and each was one look-up
abbrev pub invariant-loop-pair : goal.invariant-loop-pair
invariant-loop-pair g l = record {
  pair : find (stands_in (g.R.Recency.rows l.list)) (drop l.pair-index l.pairs) ≡ find (stands_in (g.R.Recency.rows l.list)) l.pairs;
  counted : l.initial.steps ≤ l.steps;
  cost : l.steps ≤ l.initial.steps + l.pair-index * g.R.Recency.find_steps l.list;
}
