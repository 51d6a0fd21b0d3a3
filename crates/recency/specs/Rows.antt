-- Rows of a client list, oldest arrival first: our own words.
use Rattle.std.specs.Prelude.{◌≡◌, ℕ, ◌-◌, ◌<◌, ◌≤◌, false, not, if◌then◌else◌, List, [], ◌∷◌, length, map, Option, Some, None, find, slice_get}
use Rattle.std.specs.List.{AllByRecursion, filter}
use Rattle.net_addr.specs.Addresses.{same_ip}
use Rattle.net_addr.specs.declared.addr.Ip.{Ip}
use Rattle.recency.specs.declared.limits.Limits.{Limits}
use Rattle.recency.specs.declared.row.Row.{Row}

-- the row of a client: none where it is not listed
abbrev pub find_row : List Row → Ip → Option Row
find_row rows ip = find (λ row. same_ip row.ip ip) rows

-- the rows of all other clients
abbrev pub others : List Row → Ip → List Row
others rows ip = filter (λ row. not (same_ip row.ip ip)) rows

-- each client has one row at most
abbrev pub IsDistinct : List Row → Type 0
IsDistinct [] = Unit {0}
IsDistinct (row ∷ rows) = AllByRecursion (λ later. same_ip later.ip row.ip ≡ false) rows × IsDistinct rows

-- each row's last arrival is before those of the rows after it
abbrev pub IsRising : List Row → Type 0
IsRising [] = Unit {0}
IsRising (row ∷ rows) = AllByRecursion (λ later. row.last < later.last) rows × IsRising rows

-- the last arrivals are all before a stamp
abbrev pub AreBefore : ℕ → List Row → Type 0
AreBefore stamp rows = AllByRecursion (λ row. row.last < stamp) rows

-- the last arrivals are all at a stamp or before it
abbrev pub AreUpTo : ℕ → List Row → Type 0
AreUpTo stamp rows = AllByRecursion (λ row. row.last ≤ stamp) rows

-- a row has seen an arrival, and did not see the first one after the last
pub record IsRow (row : Row) : Type 0 where
  pub seen : 1 ≤ row.count
  pub first : row.first ≤ row.last

-- the rows of a client list under limits
pub record AreRows (limits : Limits) (rows : List Row) : Type 0 where
  pub distinct : IsDistinct rows
  pub rising : IsRising rows
  pub each : AllByRecursion IsRow rows
  pub depth : length rows ≤ limits.maxdepth

-- what is seen of a client list: its limits, and its rows, oldest first
pub record ClientList : Type 0 where
  pub limits : Limits
  pub rows : List Row

-- a client list under limits, up to a stamp
pub record IsClientList (limits : Limits) (rows : List Row) (stamp : ℕ) : Type 0 where
  pub kept : AreRows limits rows
  pub up_to : AreUpTo stamp rows

-- the row with the first of the last arrivals
abbrev pub oldest : List Row → Option Row
oldest rows = slice_get rows 0

-- the row with the last of the last arrivals
abbrev pub newest : List Row → Option Row
newest rows = slice_get rows (length rows - 1)

-- the row after that of a client
abbrev pub after : List Row → Ip → Option Row
after [] ip = None
after (row ∷ rows) ip = if same_ip row.ip ip then oldest rows else after rows ip

-- the row after that of a named client, or the oldest one where none is named
abbrev pub newer : List Row → Option Ip → Option Row
newer rows None = oldest rows
newer rows (Some ip) = after rows ip

-- a row of this client with the stamp at which it was told to slow down; another client's as it is
abbrev pub told_row : Ip → ℕ → Row → Row
told_row ip stamp row = if same_ip row.ip ip then record row { told = Some stamp } else row

-- the rows after a client was told to slow down
abbrev pub told_rows : List Row → Ip → ℕ → List Row
told_rows rows ip stamp = map (told_row ip stamp) rows
