use Rattle.std.proofs.Common.{◌≡◌, ◌+◌}
use Rattle.recency.specs.Sweeps.{swept_rows}
use Rattle.recency_links.specs.Lists.{IsLinked, rows_of}
use Rattle.recency_links.proofs.sweeping.sweep_in.Given as goal

-- so many rows went, each was one step, and the sweep of what is left is that of all
abbrev pub invariant-loop-gone : goal.invariant-loop-gone
invariant-loop-gone g l = record {
  linked : IsLinked l.limits l.links;
  swept : swept_rows l.limits (rows_of l.links) l.moment ≡ swept_rows l.limits (rows_of l.fn.links) l.moment;
  count : l.links.count + l.gone ≡ l.fn.links.count;
  steps : l.steps ≡ l.fn.steps + l.gone;
}
