-- A walk over a client list: where it stands, and what is left. Private words of the code that reads pages.
use Rattle.std.specs.Prelude.{◌≡◌, ◌⊎◌, ℕ, suc, ◌+◌, ◌≤◌, nat_le, Bool, true, if◌then◌else◌, Option, Some, None, IsSome, List, [], ◌∷◌, length, take}
use Rattle.std.specs.List.{AllByRecursion, filter}
use Rattle.mru_items.specs.declared.pair.Pair.{Pair}
use Rattle.mru_items.specs.declared.query.MruFilter.{MruFilter}
use Rattle.mru_items.specs.declared.query.ReadRequest.{ReadRequest}
use Rattle.net_addr.specs.Addresses.{same_ip}
use Rattle.net_addr.specs.declared.addr.Ip.{Ip}
use Rattle.recency.specs.declared.row.Row.{Row}
use Rattle.recency.specs.Rows.{find_row}
use Rattle.mru_read.specs.Pages.{IsTellableRow, Start, Beginning, Behind, passes, passing_from, row_count, stands_in, up_to_passing}

-- the rows behind that of a client
abbrev pub rows_behind : List Row → Ip → List Row
rows_behind [] ip = []
rows_behind (row ∷ rows) ip = if same_ip row.ip ip then rows else rows_behind rows ip

-- the rows behind that of a client, or all where none is named
abbrev pub left_after : List Row → Option Ip → List Row
left_after rows None = rows
left_after rows (Some ip) = rows_behind rows ip

-- the rows behind one that was found, and none where none was
abbrev pub left_behind : List Row → Option Row → List Row
left_behind rows None = []
left_behind rows (Some row) = rows_behind rows row.ip

-- the rows that pass, from one on that was found, with it
abbrev pub passing_on : List Row → MruFilter → Option Row → List Row
passing_on rows wanted None = []
passing_on rows wanted (Some row) = row ∷ filter (passes wanted) (rows_behind rows row.ip)

-- a client is listed, where one is named
abbrev pub IsListed : List Row → Option Ip → Type 0
IsListed rows None = Unit {0}
IsListed rows (Some ip) = IsSome (find_row rows ip)

-- the next row that passes was found with so many reads, of those that are left at a place
pub record IsNext (rows : List Row) (wanted : MruFilter) (left : List Row) (next : Option Row) : Type 0 where
  pub passing : filter (passes wanted) left ≡ passing_on rows wanted next
  pub listed : (row : Row) → next ≡ Some row → IsSome (find_row rows row.ip)
  pub gone : (row : Row) (k : ℕ) → next ≡ Some row
      → length (up_to_passing wanted (suc k) left) + length (rows_behind rows row.ip)
      ≡ length left + length (up_to_passing wanted k (rows_behind rows row.ip))

-- where a page begins that confirms a pair, or none
abbrev pub start_at : Option Pair → Start
start_at None = Beginning
start_at (Some pair) = Behind pair

-- the client behind which a page begins
abbrev pub place_of : Option Pair → Option Ip
place_of None = None
place_of (Some pair) = Some pair.addr.ip

-- a pair stands in a list, where one is confirmed
abbrev pub IsInPlace : List Row → Option Pair → Type 0
IsInPlace rows None = Unit {0}
IsInPlace rows (Some pair) = stands_in rows pair ≡ true

-- these are the rows of the page from a start on, and it ends the list or not
pub record IsTaken (rows : List Row) (request : ReadRequest) (start : Start) (taken : List Row) (ended : Bool) : Type 0 where
  pub are : taken ≡ take (row_count rows request start 0) (passing_from rows request start)
  pub is_ended : ended ≡ nat_le (length (passing_from rows request start)) (row_count rows request start 0)
  pub some : (1 ≤ length taken) ⊎ (ended ≡ true)
  pub tellable : AllByRecursion IsTellableRow taken
