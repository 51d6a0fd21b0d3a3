-- Pages of a client list: where a read begins, which clients it shows, and how they are told. Our own rules, after NTPsec's
-- `mrulist` (RFC 9327, section 4, command 10).
use Rattle.std.specs.Prelude.{◌≡◌, ℕ, zero, suc, ◌+◌, ◌^◌, ◌<◌, ◌≤◌, ◌==◌, nat_le, Bool, true, false, not, ◌&&◌, ◌||◌, if◌then◌else◌, bit_and, Option, Some, None, option_map, List, [], ◌∷◌, length, take, map, find, replicate}
use Rattle.std.specs.List.{AllByRecursion, filter, list_any}
use Rattle.mode6_frame.specs.declared.message.Head.{Head}
use Rattle.mode6_frame.specs.Cuts.{datagrams, lengths_of, parts_count}
use Rattle.mode6_frame.specs.ItemTexts.{is_separator}
use Rattle.net_addr.specs.Addresses.{IsIp, same_ip}
use Rattle.mode6_frame.specs.declared.items.Item.{Item}
use Rattle.mru_items.specs.declared.answer.PageAnswer.{PageAnswer}
use Rattle.mru_items.specs.declared.answer.TheConstants.{NONCE_OCTETS}
use Rattle.mru_items.specs.declared.pair.Pair.{Pair}
use Rattle.mru_items.specs.declared.query.MruFilter.{MruFilter}
use Rattle.mru_items.specs.declared.query.ReadRequest.{ReadRequest}
use Rattle.mru_items.specs.declared.shown.ShownRow.{ShownRow}
use Rattle.mru_items.specs.Answers.{answer_items}
use Rattle.mru_items.specs.Queries.{greatest, told_time}
use Rattle.mru_read.specs.declared.pages.Page.{Page}
use Rattle.recency.specs.declared.row.Row.{Row}
use Rattle.recency.specs.Rows.{newest}

-- a client passes a filter: it arrived often enough, and has all flags that it has to have, and one of those that it may have
abbrev pub passes : MruFilter → Row → Bool
passes wanted row =
    nat_le wanted.mincount row.count && (bit_and row.flags wanted.resall == wanted.resall)
    && ((wanted.resany == 0) || not (bit_and row.flags wanted.resany == 0))

-- a row is that of a pair: it has the pair's client, port and last arrival
abbrev pub is_row_of : Pair → Row → Bool
is_row_of pair row = same_ip row.ip pair.addr.ip && (row.port == pair.addr.port) && (row.last == pair.last)

-- a pair stands in a list: a row is that of the pair
abbrev pub stands_in : List Row → Pair → Bool
stands_in rows pair = list_any (is_row_of pair) rows

-- the rows behind that of a pair
abbrev pub behind : Pair → List Row → List Row
behind pair [] = []
behind pair (row ∷ rows) = if is_row_of pair row then rows else behind pair rows

-- where a page begins: with the oldest row, or behind that of a pair
pub data Start : Type 0 where
  Beginning : Start
  Behind : (pair : Pair) → Start

-- where a page begins that names pairs: behind the first that stands, and nowhere where none does
abbrev pub start_of : List Row → List Pair → Option Start
start_of rows [] = Some Beginning
start_of rows (pair ∷ pairs) = option_map Behind (find (stands_in rows) (pair ∷ pairs))

-- the rows from where a page begins
abbrev pub rows_from : List Row → Start → List Row
rows_from rows Beginning = rows
rows_from rows (Behind pair) = behind pair rows

-- the pair that a page confirms
abbrev pub confirmed_by : Start → Option Pair
confirmed_by Beginning = None
confirmed_by (Behind pair) = Some pair

-- a row as it is told by a server whose clocks begin at this time
abbrev pub shown_row : ℕ → Row → ShownRow
shown_row origin row = record {
  addr = record { ip = row.ip; port = row.port };
  last = told_time origin row.last;
  first = told_time origin row.first;
  count = row.count;
  mv = row.mv;
  flags = row.flags;
}

-- a pair as it is told
abbrev pub told_pair : ℕ → Pair → Pair
told_pair origin pair = record { addr = pair.addr; last = told_time origin pair.last }

-- the times that only the end of the list tells
abbrev pub at_end : {A : Type 0} → Bool → Option A → Option A
at_end ended value = if ended then value else None

-- what a page tells, with a nonce, of a server whose clocks begin at this time: at the end of the list its own time too, and
-- the last arrival of the newest client
abbrev pub told_page : List ℕ → ℕ → Page → PageAnswer
told_page nonce origin page = record {
  nonce = nonce;
  older = option_map (told_pair origin) page.confirmed;
  rows = map (shown_row origin) page.rows;
  ended = at_end page.ended (Some (told_time origin page.now));
  newest = at_end page.ended (option_map (told_time origin) page.newest);
}

-- the items of a page
abbrev pub items_of_page : Page → List ℕ → ℕ → List Item
items_of_page page nonce origin = answer_items (told_page nonce origin page)

-- the datagrams of a page, tagged with its time
abbrev pub grams_of_page : Page → List ℕ → ℕ → Head → List (List ℕ)
grams_of_page page nonce origin head = datagrams head page.now (items_of_page page nonce origin)

-- how many datagrams a page has: it is the same for every nonce of 24 octets without a space or a comma, and every origin
unfoldable pub page_parts : Page → ℕ
page_parts page = parts_count (lengths_of (items_of_page page (replicate NONCE_OCTETS 48) 0))

-- a nonce stands without quotes: it has no space and no comma
abbrev pub IsUnquoted : List ℕ → Type 0
IsUnquoted nonce = list_any is_separator nonce ≡ false

-- a page of the first so many of these rows, which are all that pass from its start on
abbrev pub page_with : List Row → Start → List Row → ℕ → ℕ → Page
page_with rows start passing now count = record {
  rows = take count passing;
  confirmed = confirmed_by start;
  ended = nat_le (length passing) count;
  now = now;
  newest = option_map (λ row. row.last) (newest rows);
}

-- a limit allows so many rows
abbrev pub is_within : Option ℕ → ℕ → Bool
is_within None count = true
is_within (Some limit) count = nat_le count limit

-- a page may have this many rows: the limit allows them, and its datagrams are not too many
abbrev pub may_have : List Row → ReadRequest → Start → List Row → ℕ → ℕ → Bool
may_have rows request start passing now count =
    is_within request.limit count && nat_le (page_parts (page_with rows start passing now count)) request.frags

-- the rows that pass, from a start on
abbrev pub passing_from : List Row → ReadRequest → Start → List Row
passing_from rows request start = filter (passes request.filter) (rows_from rows start)

-- how many rows the page from a start on has: as many as it may
unfoldable pub row_count : List Row → ReadRequest → Start → ℕ → ℕ
row_count rows request start now =
    greatest (may_have rows request start (passing_from rows request start) now) (length (passing_from rows request start))

-- the page from a start on: it has as many of the rows that pass as it may
abbrev pub page_from : List Row → ReadRequest → ℕ → Start → Page
page_from rows request now start =
    page_with rows start (passing_from rows request start) now (row_count rows request start now)

-- the page that a read of a list asks for at a time; none where pairs are named and none stands
unfoldable pub page_of : List Row → ReadRequest → ℕ → Option Page
page_of rows request now = option_map (page_from rows request now) (start_of rows request.pairs)

-- the rows up to the so manieth that passes and with it, or all
abbrev pub up_to_passing : MruFilter → ℕ → List Row → List Row
up_to_passing wanted zero rows = []
up_to_passing wanted (suc count) [] = []
up_to_passing wanted (suc count) (row ∷ rows) =
    if passes wanted row then row ∷ up_to_passing wanted count rows else row ∷ up_to_passing wanted (suc count) rows

-- how many rows a page from a start on goes over: those up to the first that passes and that it does not show, and all
-- where no other one passes behind that
abbrev pub gone_from : List Row → ReadRequest → ℕ → Start → ℕ
gone_from rows request now start =
    if nat_le (length (passing_from rows request start)) (row_count rows request start now + 1)
    then length (rows_from rows start)
    else length (up_to_passing request.filter (row_count rows request start now + 1) (rows_from rows start))

-- how many rows a page goes over, at any time
abbrev pub gone_by : List Row → ReadRequest → Option Start → ℕ
gone_by rows request None = 0
gone_by rows request (Some start) = gone_from rows request 0 start

-- how many rows a page goes over
unfoldable pub gone_over : List Row → ReadRequest → ℕ
gone_over rows request = gone_by rows request (start_of rows request.pairs)

-- a pair that can be told
abbrev pub IsTellablePair : Option Pair → Type 0
IsTellablePair None = Unit {0}
IsTellablePair (Some pair) = IsIp pair.addr.ip × (pair.addr.port < 2 ^ 16)

-- a row has numbers of its widths
pub record IsTellableRow (row : Row) : Type 0 where
  pub ip : IsIp row.ip
  pub port : row.port < 2 ^ 16
  pub count : row.count < 2 ^ 32
  pub mv : row.mv < 2 ^ 8
  pub flags : row.flags < 2 ^ 16

-- a page that can be told: its addresses are addresses, and its numbers have their widths
pub record IsTellable (page : Page) : Type 0 where
  pub rows : AllByRecursion IsTellableRow page.rows
  pub confirmed : IsTellablePair page.confirmed

-- so many rows are the most that the page from a start on may have: it may have them, and no more of those that pass
pub record IsMost (rows : List Row) (request : ReadRequest) (start : Start) (now count : ℕ) : Type 0 where
  pub within : count ≤ length (passing_from rows request start)
  pub had : may_have rows request start (passing_from rows request start) now count ≡ true
  pub no_more : (k : ℕ) → count < k → k ≤ length (passing_from rows request start)
      → may_have rows request start (passing_from rows request start) now k ≡ false
