-- What a sweep leaves of a client list: our own rule, after NTPsec's `mru` limits.
use Rattle.std.specs.Prelude.{ℕ, ◌-◌, nat_lt, nat_le, ◌&&◌, Bool, if◌then◌else◌, List, [], ◌∷◌, length}
use Rattle.recency.specs.declared.limits.Limits.{Limits}
use Rattle.recency.specs.declared.row.Row.{Row}

-- a sweep at a moment drops the oldest of so many rows: there are more than mindepth, and it has aged; an arrival after
-- the moment has no age
abbrev pub is_dropped : Limits → Row → ℕ → ℕ → Bool
is_dropped limits row count moment = nat_lt limits.mindepth count && nat_le limits.maxage (moment - row.last)

-- the rows without the oldest ones, as long as there are more than mindepth and the oldest has an age of maxage
abbrev pub swept_rows : Limits → List Row → ℕ → List Row
swept_rows limits [] moment = []
swept_rows limits (oldest ∷ rows) moment =
    if is_dropped limits oldest (length (oldest ∷ rows)) moment then swept_rows limits rows moment else oldest ∷ rows
