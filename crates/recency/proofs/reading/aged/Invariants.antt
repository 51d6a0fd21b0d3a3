use Rattle.std.proofs.Common.{◌≡◌, ◌+◌, drop}
use Rattle.recency.specs.Sweeps.{swept_rows}
use Rattle.recency.proofs.reading.aged.Given as goal

-- the rows before this place go, and each was one step
abbrev pub invariant-loop-place : goal.invariant-loop-place
invariant-loop-place g l = record {
  left : swept_rows l.limits (drop l.place l.rows) l.moment ≡ swept_rows l.limits l.rows l.moment;
  steps : l.steps ≡ l.initial.steps + l.place;
}
