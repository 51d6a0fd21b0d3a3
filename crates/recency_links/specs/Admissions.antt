-- The answer to a client without a row, by the oldest row and the number of rows: our own words for what `recency` says of
-- all rows.
use Rattle.std.specs.Prelude.{ℕ, ◌-◌, nat_lt, nat_le, Bool, false, if◌then◌else◌, Option, Some, None}
use Rattle.recency.specs.declared.limits.Limits.{Limits}
use Rattle.recency.specs.declared.row.Row.{Row}
use Rattle.recency.specs.declared.visit.Touched.{Touched}
use Rattle.recency.specs.declared.visit.Touched.TheVariants.{Added, Replaced, Untracked}

-- there is an oldest row, and its age is at least this
abbrev pub has_age : ℕ → Option Row → ℕ → Bool
has_age age None stamp = false
has_age age (Some oldest) stamp = nat_le age (stamp - oldest.last)

-- the answer where the oldest row goes
abbrev pub replaces : Option Row → Touched
replaces None = Untracked
replaces (Some oldest) = Replaced oldest.ip

-- the answer by the first rule that applies: few rows, an old row, some room, a row that is old enough to make room
abbrev pub admission_by : Limits → Option Row → ℕ → ℕ → Touched
admission_by limits oldest count stamp =
    if nat_lt count limits.mindepth then Added
    else (if has_age limits.maxage oldest stamp then replaces oldest
    else (if nat_lt count limits.maxdepth then Added
    else (if has_age limits.minage oldest stamp then replaces oldest
    else Untracked)))
