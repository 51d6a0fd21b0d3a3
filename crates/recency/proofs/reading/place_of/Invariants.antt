use Rattle.std.proofs.Common.{◌≡◌, ◌+◌, ◌<◌, ℕ, not, true, get_or}
use Rattle.net_addr.specs.Addresses.{same_ip}
use Rattle.recency.specs.declared.row.Row.{Row}
use Rattle.recency.proofs.reading.place_of.Given as goal

-- no row before this place is the client's, and each was one step
abbrev pub invariant-loop-place : goal.invariant-loop-place
invariant-loop-place g l = record {
  before : (k : ℕ) (d : Row) → k < l.place → not (same_ip (get_or l.rows k d).ip l.ip) ≡ true;
  steps : l.steps ≡ l.initial.steps + l.place;
}
