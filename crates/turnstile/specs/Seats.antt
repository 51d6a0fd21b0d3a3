-- What a caller knows: our own words.
use Rattle.std.specs.Prelude.{ℕ, List, Option}
use Rattle.atomic_table.specs.Seated.{TableId}

-- what a seat knows: its turnstile, its share of all seats, the opening state, the front of the history that it has seen,
-- and the places of its own calls, oldest first
pub record SeatView (Op State : Type 0) : Type 0 where
  pub door : TableId
  pub share : ℕ
  pub opening : Option State
  pub front : List Op
  pub own : List ℕ
