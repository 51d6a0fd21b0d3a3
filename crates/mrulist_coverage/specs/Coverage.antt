-- What a completed listing covers: our own words.
use Rattle.std.specs.Prelude.{◌≡◌, ◌≢◌, ◌⊎◌, ℕ, ◌++◌, true, false, Option, Some, List, [], ◌∷◌, map, Contains}
use Rattle.std.specs.List.{AllByRecursion, filter}
use Rattle.edge_traits.specs.declared.port.Event.{Event}
use Rattle.mode6_frame.specs.declared.errors.TheConstants.{BAD_NAME}
use Rattle.mru_items.specs.declared.query.MruFilter.{MruFilter}
use Rattle.mru_items.specs.declared.query.Query.{Query}
use Rattle.mru_items.specs.declared.query.ReadRequest.{ReadRequest}
use Rattle.mru_items.specs.declared.shown.ShownRow.{ShownRow}
use Rattle.mru_items.specs.Queries.{told_time}
use Rattle.mru_read.specs.declared.pages.Page.{Page}
use Rattle.mru_read.specs.Histories.{Read, list_at, page_at}
use Rattle.mru_read.specs.Pages.{passes, shown_row}
use Rattle.mrulist_coverage.specs.Tellings.{Telling}
use Rattle.mrulist_reader.specs.declared.listing.End.TheVariants.{Listed, BadReply, Refused}
use Rattle.mrulist_reader.specs.Readers.{ReaderParts, listing_dialogue, new_reader}
use Rattle.net_addr.specs.Addresses.{same_ip}
use Rattle.net_addr.specs.declared.addr.Addr.{Addr}
use Rattle.ntpq_client.specs.Dialogues.{after_all, ready}
use Rattle.ntpq_client.specs.Talks.{new_talk}
use Rattle.std.specs.Prelude.{slice_get}

-- these stand among those, in the same order
abbrev pub IsSublist : {A : Type 0} → List A → List A → Type 0
IsSublist [] those = Unit {0}
IsSublist (this ∷ these) [] = ⊥
IsSublist (this ∷ these) (that ∷ those) = ((this ≡ that) × IsSublist these those) ⊎ IsSublist (this ∷ these) those

-- each client has one row at most
abbrev pub AreDistinct : List ShownRow → Type 0
AreDistinct [] = Unit {0}
AreDistinct (row ∷ rows) = AllByRecursion (λ later. same_ip later.addr.ip row.addr.ip ≡ false) rows × AreDistinct rows

-- a read at this place came to this page
pub record IsPageAt (t : Telling) (place : ℕ) (page : Page) : Type 0 where
  pub read : ReadRequest
  pub moment : ℕ
  pub stands : slice_get t.history.moves place ≡ Some (Read read moment)
  pub is_page : page_at (list_at t.history place) read moment ≡ Some page

-- a row was shown by the page of a read at one of these places
pub record WasShown (t : Telling) (places : List (Option ℕ)) (row : ShownRow) : Type 0 where
  pub place : ℕ
  pub page : Page
  pub among : Contains places (Some place)
  pub is_at : IsPageAt t place page
  pub shown : Contains (map (shown_row t.origin) page.rows) row

-- the clients of the list at a place that pass the filter, as they are told
abbrev pub passing_at : Telling → MruFilter → ℕ → List ShownRow
passing_at t wanted place = map (shown_row t.origin) (filter (passes wanted) (list_at t.history place).rows)

-- Rows and a time cover the client list as it stood at a place: each client has one row at most; those of the list that pass
-- the filter have theirs, as it stood there, in the list's order; each row was shown by a page whose answer was taken; and
-- the page that was read at the place ends the list, at this time.
pub record Covers (t : Telling) (places : List (Option ℕ)) (wanted : MruFilter) (place : ℕ) (rows : List ShownRow) (now : ℕ) : Type 0 where
  pub distinct : AreDistinct rows
  pub all : IsSublist (passing_at t wanted place) rows
  pub shown : AllByRecursion (WasShown t places) rows
  pub page : Page
  pub is_at : IsPageAt t place page
  pub ended : page.ended ≡ true
  pub time : now ≡ told_time t.origin page.now

-- rows and a time cover the client list as it stood at the last of these places
abbrev pub CoversLast : Telling → List (Option ℕ) → MruFilter → List ShownRow → ℕ → Type 0
CoversLast t places wanted rows now =
    (place : ℕ) × (before : List (Option ℕ)) × (places ≡ before ++ Some place ∷ []) × Covers t places wanted place rows now

-- How a listing stands that was told from a history, by the places of the reads that the datagrams which it took tell of:
-- where it completed, it covers the client list as it stood at the place of the last one; no whole answer was none that it
-- had asked for; and no refusal ended it for want of a client that it named.
pub record IsCoveredListing (t : Telling) (places : List (Option ℕ)) (query : Query) (r : ReaderParts) : Type 0 where
  pub covers : (now : ℕ) → r.end ≡ Some (Listed now) → CoversLast t places query.filter r.rows now
  pub never_bad : r.end ≢ Some BadReply
  pub never_refused : r.end ≢ Some (Refused BAD_NAME)

-- how a client's listing stands after these events, from its beginning on
abbrev pub listing_after : Addr → Query → List Event → ReaderParts
listing_after server query events = (after_all listing_dialogue events (ready (new_talk server) (new_reader query))).plan
