-- What an arrival makes of a client list: our own rule, after NTPsec's `mru` limits.
use Rattle.std.specs.Prelude.{◌≡◌, ℕ, ◌+◌, ◌-◌, ◌^◌, ◌<◌, ◌≤◌, min, nat_lt, nat_le, Bool, true, false, if◌then◌else◌, List, [], ◌∷◌, ◌++◌, length, drop, Option, Some, None}
use Rattle.access_rules.specs.Rates.{score_of}
use Rattle.access_rules.specs.declared.rate.TheConstants.{ARRIVAL_SCORE}
use Rattle.recency.specs.declared.limits.Limits.{Limits}
use Rattle.recency.specs.declared.row.Row.{Row}
use Rattle.recency.specs.declared.visit.Visit.{Visit}
use Rattle.recency.specs.declared.visit.Touched.{Touched}
use Rattle.recency.specs.declared.visit.Touched.TheVariants.{Known, Added, Replaced, Untracked}
use Rattle.recency.specs.Rows.{find_row, newest, others}

-- a listed client's row after another arrival: it keeps its first one and when the client was told
abbrev pub row_after : Row → Visit → ℕ → Row
row_after row visit stamp = record row {
  port = visit.port;
  last = stamp;
  count = min (row.count + 1) (2 ^ 32 - 1);
  mv = visit.mv;
  flags = visit.flags;
  score = score_of visit.rate row.score (stamp - row.last);
}

-- the row of a client that had none
abbrev pub new_row : Visit → ℕ → Row
new_row visit stamp = record {
  ip = visit.ip;
  port = visit.port;
  first = stamp;
  last = stamp;
  count = 1;
  mv = visit.mv;
  flags = visit.flags;
  score = ARRIVAL_SCORE;
  told = None;
}

-- there is an oldest row, and its age is at least this
abbrev pub has_aged : ℕ → List Row → ℕ → Bool
has_aged age [] stamp = false
has_aged age (oldest ∷ rows) stamp = nat_le age (stamp - oldest.last)

-- the answer where the oldest row goes
abbrev pub replaced : List Row → Touched
replaced [] = Untracked
replaced (oldest ∷ rows) = Replaced oldest.ip

-- the answer to a client without a row, by the first rule that applies: few rows, an old row, some room, a row that is
-- old enough to make room
abbrev pub admission : Limits → List Row → ℕ → Touched
admission limits rows stamp =
    if nat_lt (length rows) limits.mindepth then Added
    else (if has_aged limits.maxage rows stamp then replaced rows
    else (if nat_lt (length rows) limits.maxdepth then Added
    else (if has_aged limits.minage rows stamp then replaced rows
    else Untracked)))

-- the rows after such an answer: where a row goes it is the oldest, and a new one stands last
abbrev pub admitted : Touched → List Row → Row → List Row
admitted Known rows new = rows
admitted Added rows new = rows ++ new ∷ []
admitted (Replaced ip) rows new = drop 1 rows ++ new ∷ []
admitted Untracked rows new = rows

-- whether an answer comes with a new row
abbrev pub has_new_row : Touched → Bool
has_new_row Known = false
has_new_row Added = true
has_new_row (Replaced ip) = true
has_new_row Untracked = false

-- such an answer can be followed in a list of so many rows that has room for so many
abbrev pub HasRoom : Touched → ℕ → ℕ → Type 0
HasRoom Known count room = Unit {0}
HasRoom Added count room = count < room
HasRoom (Replaced ip) count room = (1 ≤ count) × (count ≤ room)
HasRoom Untracked count room = Unit {0}

-- the answer to an arrival, by the client's row
abbrev pub answer_by : Option Row → Limits → List Row → ℕ → Touched
answer_by None limits rows stamp = admission limits rows stamp
answer_by (Some row) limits rows stamp = Known

-- the rows after an arrival, by the client's row: it is taken out, and stands last after the arrival
abbrev pub rows_by : Option Row → Limits → List Row → Visit → ℕ → List Row
rows_by None limits rows visit stamp = admitted (admission limits rows stamp) rows (new_row visit stamp)
rows_by (Some row) limits rows visit stamp = others rows visit.ip ++ row_after row visit stamp ∷ []

-- the answer to an arrival: a listed client is known, and for another one the first rule that applies decides
abbrev pub touch_answer : Limits → List Row → Visit → ℕ → Touched
touch_answer limits rows visit stamp = answer_by (find_row rows visit.ip) limits rows stamp

-- the rows after an arrival: a listed client's row stands last now, and so does a new row, for which the oldest one may go
abbrev pub touched_rows : Limits → List Row → Visit → ℕ → List Row
touched_rows limits rows visit stamp = rows_by (find_row rows visit.ip) limits rows visit stamp

-- the client's row after such an answer, in the rows after it: the newest, and none where it is not tracked
abbrev pub touched_row : Touched → List Row → Option Row
touched_row Known rows = newest rows
touched_row Added rows = newest rows
touched_row (Replaced ip) rows = newest rows
touched_row Untracked rows = None

-- an answer to an arrival, and the rows after it
pub record IsTouched (limits : Limits) (rows : List Row) (visit : Visit) (stamp : ℕ) (answer : Touched) (left : List Row) : Type 0 where
  pub answers : answer ≡ touch_answer limits rows visit stamp
  pub leaves : left ≡ touched_rows limits rows visit stamp
