-- What happens to a client list, move by move, as far as reads of it can tell: our own words.
use Rattle.std.specs.Prelude.{◌≡◌, ℕ, ◌+◌, ◌-◌, ◌^◌, ◌<◌, Bool, if◌then◌else◌, max, Option, Some, None, IsSome, List, [], ◌∷◌, take, slice_get}
use Rattle.mru_items.specs.declared.query.ReadRequest.{ReadRequest}
use Rattle.mru_read.specs.declared.pages.Page.{Page}
use Rattle.mru_read.specs.Pages.{page_of}
use Rattle.recency.specs.declared.limits.Limits.{Limits}
use Rattle.recency.specs.declared.row.Row.{Row}
use Rattle.recency.specs.declared.visit.Visit.{Visit}
use Rattle.recency.specs.Arrivals.{touched_rows}
use Rattle.recency.specs.Rows.{IsClientList, told_rows}
use Rattle.recency.specs.Sweeps.{swept_rows}

-- one move: nothing that a list shows; an arrival, after which the client may have been told to slow down; a sweep; or a read
pub data Move : Type 0 where
  Still : Move
  Touch : (visit : Visit) (moment : ℕ) (is_told : Bool) → Move
  Sweep : (moment : ℕ) → Move
  Read : (request : ReadRequest) (moment : ℕ) → Move

-- a client list between two moves, and the last stamp that was drawn
pub record Listing : Type 0 where
  pub rows : List Row
  pub stamp : ℕ

-- the stamp that is drawn at a moment: no earlier than the moment, and later than the last one
abbrev pub drawn : ℕ → ℕ → ℕ
drawn moment stamp = max moment (stamp + 1)

-- the rows after a client may have been told to slow down
abbrev pub told_if : Bool → List Row → Visit → ℕ → List Row
told_if is_told rows visit stamp = if is_told then told_rows rows visit.ip stamp else rows

-- the list after a read that came to this page: it has drawn a stamp, unless it was refused
abbrev pub after_read : Listing → Option Page → ℕ → Listing
after_read list None moment = list
after_read list (Some page) moment = record { rows = list.rows; stamp = drawn moment list.stamp }

-- the page of a read at a moment: its time is the stamp that it draws
abbrev pub page_at : Listing → ReadRequest → ℕ → Option Page
page_at list request moment = page_of list.rows request (drawn moment list.stamp)

-- the list after a move
abbrev pub after_move : Limits → Listing → Move → Listing
after_move limits list Still = list
after_move limits list (Touch visit moment is_told) = record {
  rows = told_if is_told (touched_rows limits list.rows visit (drawn moment list.stamp)) visit (drawn moment list.stamp);
  stamp = drawn moment list.stamp;
}
after_move limits list (Sweep moment) = record { rows = swept_rows limits list.rows moment; stamp = list.stamp }
after_move limits list (Read request moment) = after_read list (page_at list request moment) moment

-- a list, what its limits are, and moves over it
pub record ListHistory : Type 0 where
  pub limits : Limits
  pub opening : Listing
  pub moves : List Move

-- the list after moves, oldest first
abbrev pub after_moves : Limits → Listing → List Move → Listing
after_moves limits list [] = list
after_moves limits list (move ∷ moves) = after_moves limits (after_move limits list move) moves

-- the list at a place of a history: before the move of that number
abbrev pub list_at : ListHistory → ℕ → Listing
list_at history place = after_moves history.limits history.opening (take place history.moves)

-- a move may stand at a list: a stamp is left to draw where it draws one, and its moment has 64 bits
abbrev pub IsMoveAt : Limits → Listing → Move → Type 0
IsMoveAt limits list Still = Unit {0}
IsMoveAt limits list (Touch visit moment is_told) = (list.stamp < 2 ^ 64 - 1) × (moment < 2 ^ 64)
IsMoveAt limits list (Sweep moment) = moment < 2 ^ 64
IsMoveAt limits list (Read request moment) = (list.stamp < 2 ^ 64 - 1) × (moment < 2 ^ 64)

-- moves that may stand, each at its list
abbrev pub AreMoves : Limits → Listing → List Move → Type 0
AreMoves limits list [] = Unit {0}
AreMoves limits list (move ∷ moves) = IsMoveAt limits list move × AreMoves limits (after_move limits list move) moves

-- a history begins with a client list under its limits, up to its stamp, and its moves may stand
pub record IsListHistory (history : ListHistory) : Type 0 where
  pub list : IsClientList history.limits history.opening.rows history.opening.stamp
  pub stamp : history.opening.stamp < 2 ^ 64
  pub moves : AreMoves history.limits history.opening history.moves
