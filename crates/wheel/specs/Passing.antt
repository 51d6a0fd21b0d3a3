-- One pass over the due times (our own rule).
use Rattle.std.specs.Prelude.{ℕ, ◌≡◌, ◌<◌, ◌≤◌, ◌⊎◌, List, Option, None, Some, Bool, nat_lt, nat_le, if◌then◌else◌}
use Rattle.wheel.specs.DueTimes.{due_at}
use Rattle.wheel.specs.declared.due_times.Due.{Due}

-- a due time comes before the first one so far, or is due where there is none
abbrev pub is_sooner_than : ℕ → Option Due → ℕ → Bool
is_sooner_than at None now = nat_le at now
is_sooner_than at (Some first) now = nat_lt at first.at

-- the first one so far, after one more key
abbrev pub earlier_of : Option Due → ℕ → Option ℕ → ℕ → Option Due
earlier_of first key None now = first
earlier_of first key (Some at) now = if is_sooner_than at first now then Some (record { key = key; at = at }) else first

-- a key is the first that is due of the keys below a number
pub record IsFirstBelow (due : List (Option ℕ)) (now below : ℕ) (found : Due) : Type 0 where
  pub is_below : found.key < below
  pub is_set : due_at due found.key ≡ Some found.at
  pub by_now : found.at ≤ now
  pub first : (other time : ℕ) → other < below → due_at due other ≡ Some time → (found.at < time) ⊎ ((found.at ≡ time) × (found.key ≤ other))

-- or none of them is due
abbrev pub IsFirstOf : List (Option ℕ) → ℕ → ℕ → Option Due → Type 0
IsFirstOf due now below None = (key time : ℕ) → key < below → due_at due key ≡ Some time → now < time
IsFirstOf due now below (Some found) = IsFirstBelow due now below found
