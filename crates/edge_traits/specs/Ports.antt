-- What stays of a port in a call: our own words.
use Rattle.std.specs.Prelude.{ℕ, ◌≡◌, ◌≤◌}
use Rattle.net_addr.specs.declared.addr.Addr.{Addr}

-- a port stays the one that it is: its counts never fall, its address and the longest give are the same
pub record IsPortKept {P : Type 0} (faults quiets : P → ℕ) (address : P → Addr) (most : P → ℕ) (old new : P) : Type 0 where
  pub faults_kept : faults old ≤ faults new
  pub quiets_kept : quiets old ≤ quiets new
  pub address_kept : address new ≡ address old
  pub most_kept : most new ≡ most old
