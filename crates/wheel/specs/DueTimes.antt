-- Due times by key, in a list that has each key's at its place, and None for a key without one; there is room for the keys below its length (our own rules).
use Rattle.std.specs.Prelude.{ℕ, ◌≡◌, ◌<◌, ◌≤◌, ◌⊎◌, List, Option, None, Some, slice_index_or, slice_set}

-- the due time of a key; a key for which there is no room has none
abbrev pub due_at : List (Option ℕ) → ℕ → Option ℕ
due_at due key = slice_index_or due key None

-- a key is the first that is due at a moment: it is due by then, no key is due earlier, and no lesser key at the same time
pub record IsFirstDue (due : List (Option ℕ)) (now key : ℕ) : Type 0 where
  pub at : ℕ
  pub is_set : due_at due key ≡ Some at
  pub by_now : at ≤ now
  pub first : (other time : ℕ) → due_at due other ≡ Some time → (at < time) ⊎ ((at ≡ time) × (key ≤ other))

-- every due time is later
abbrev pub IsNoneDue : List (Option ℕ) → ℕ → Type 0
IsNoneDue due now = (key time : ℕ) → due_at due key ≡ Some time → now < time

-- the due times after a key was taken out, or none was
abbrev pub without : List (Option ℕ) → Option ℕ → List (Option ℕ)
without due None = due
without due (Some key) = slice_set due key None
