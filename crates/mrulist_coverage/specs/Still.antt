-- A server's client list that stands still while it is listed, and a network that loses nothing: our own words.
use Rattle.std.specs.Prelude.{◌≡◌, ◌≢◌, ℕ, ◌+◌, ◌^◌, ◌<◌, ◌≤◌, ◌==◌, false, min, if◌then◌else◌, Option, Some, None, List, [], ◌∷◌, length, slice_get}
use Rattle.std.specs.List.{AllByRecursion, filter}
use Rattle.edge_traits.specs.declared.port.Event.{Event}
use Rattle.edge_traits.specs.declared.port.Event.TheVariants.{Took, Silence, Sent}
use Rattle.mode6_frame.specs.Frames.{FrameParts}
use Rattle.mode6_frame.specs.Places.{frame_at}
use Rattle.mru_items.specs.declared.pair.Pair.{Pair}
use Rattle.mru_items.specs.declared.query.MruFilter.{MruFilter}
use Rattle.mru_items.specs.declared.query.Query.{Query}
use Rattle.mru_items.specs.Queries.{IsQuery, named_of}
use Rattle.mru_read.specs.declared.pages.Page.{Page}
use Rattle.mru_read.specs.Histories.{Listing, Move, Still, Touch, Sweep, Read, list_at, page_at}
use Rattle.mru_read.specs.Pages.{page_parts, passes}
use Rattle.mrulist_coverage.specs.Tellings.{Telling}
use Rattle.mrulist_reader.specs.declared.listing.End.{End}
use Rattle.mrulist_reader.specs.declared.listing.End.TheVariants.{Listed, BadReply, Refused}
use Rattle.mrulist_reader.specs.Readers.{ReaderParts, listing_dialogue, new_reader}
use Rattle.net_addr.specs.Addresses.{IsAddr}
use Rattle.net_addr.specs.declared.addr.Addr.{Addr}
use Rattle.ntpq_client.specs.Dialogues.{Asking, after_all, ready}
use Rattle.ntpq_client.specs.Talks.{new_talk}
use Rattle.recency.specs.declared.row.Row.{Row}

-- how many datagrams the answer of a read has: a refusal is one
abbrev pub parts_of : Option Page → ℕ
parts_of None = 1
parts_of (Some page) = page_parts page

-- how many the answer to a move has, where it is a read of this list
abbrev pub parts_after : Listing → Option Move → ℕ
parts_after list None = 0
parts_after list (Some Still) = 0
parts_after list (Some (Touch visit moment is_told)) = 0
parts_after list (Some (Sweep moment)) = 0
parts_after list (Some (Read read moment)) = parts_of (page_at list read moment)

-- how many datagrams the answer has that the read at a place came to; what tells of no read is an answer in one
abbrev pub parts_at : Telling → Option ℕ → ℕ
parts_at t None = 1
parts_at t (Some place) = parts_after (list_at t.history place) (slice_get t.history.moves place)

-- how many datagrams were taken that answer the request of a sequence number
abbrev pub takes_of : ℕ → List Event → ℕ
takes_of sequence [] = 0
takes_of sequence (Silence ∷ events) = takes_of sequence events
takes_of sequence (Sent to octets ∷ events) = takes_of sequence events
takes_of sequence (Took from octets ∷ events) =
    (if (frame_at octets).sequence == sequence then 1 else 0) + takes_of sequence events

-- a datagram that tells of no read is no error; one of a read tells of a list of which these rows pass the filter
abbrev pub IsOfList : Telling → MruFilter → List Row → FrameParts → Option ℕ → Type 0
IsOfList t wanted passing f None = f.error ≡ false
IsOfList t wanted passing f (Some place) = filter (passes wanted) (list_at t.history place).rows ≡ passing

-- no take found nothing; each datagram that was taken comes from the server, and is no error or tells of a list of which these
-- rows pass the filter
abbrev pub AreOfList : Telling → Addr → MruFilter → List Row → List Event → List (Option ℕ) → Type 0
AreOfList t server wanted passing [] places = Unit {0}
AreOfList t server wanted passing (Silence ∷ events) places = ⊥
AreOfList t server wanted passing (Sent to octets ∷ events) places = AreOfList t server wanted passing events places
AreOfList t server wanted passing (Took from octets ∷ events) [] = ⊥
AreOfList t server wanted passing (Took from octets ∷ events) (place ∷ places) =
    (from ≡ server) × IsOfList t wanted passing (frame_at octets) place × AreOfList t server wanted passing events places

-- of each datagram that was taken this is so, and of the place of the read that it tells of
abbrev pub EachTake : (FrameParts → Option ℕ → Type 0) → List Event → List (Option ℕ) → Type 0
EachTake P [] places = Unit {0}
EachTake P (Silence ∷ events) places = EachTake P events places
EachTake P (Sent to octets ∷ events) places = EachTake P events places
EachTake P (Took from octets ∷ events) [] = ⊥
EachTake P (Took from octets ∷ events) (place ∷ places) = P (frame_at octets) place × EachTake P events places

-- no more datagrams were taken, among all these, in answer to the request of this one than its answer has
abbrev pub IsFew : Telling → List Event → FrameParts → Option ℕ → Type 0
IsFew t all f place = takes_of f.sequence all ≤ parts_at t place

-- What happened at a client's port is still: no take found nothing, all that was taken came from the server, no read was
-- prohibited, the clients that pass the filter were the same at each read whose answer was taken, and no more datagrams were
-- taken in answer to a request than its answer has.
pub record IsStill (t : Telling) (server : Addr) (wanted : MruFilter) (events : List Event) (places : List (Option ℕ)) : Type 0 where
  pub passing : List Row
  pub each : AreOfList t server wanted passing events places
  pub few : EachTake (IsFew t events) events places

-- Two datagrams that answer one request are two of one answer: they tell of a read at one place, the first is no refusal, which
-- is an answer in one datagram, and they have two offsets.
abbrev pub AreTwo : FrameParts → Option ℕ → FrameParts → Option ℕ → Type 0
AreTwo f place g other = f.sequence ≡ g.sequence → (other ≡ place) × (f.error ≡ false) × (f.offset ≢ g.offset)

-- a request has one answer, each datagram of which was taken once at most
abbrev pub AreOnce : List Event → List (Option ℕ) → Type 0
AreOnce [] places = Unit {0}
AreOnce (Silence ∷ events) places = AreOnce events places
AreOnce (Sent to octets ∷ events) places = AreOnce events places
AreOnce (Took from octets ∷ events) [] = ⊥
AreOnce (Took from octets ∷ events) (place ∷ places) = EachTake (AreTwo (frame_at octets) place) events places × AreOnce events places

-- What happened at a client's port is calm: no take found nothing, all that was taken came from the server, no read was
-- prohibited, the clients that pass the filter were the same at each read whose answer was taken, each request has one answer,
-- and no datagram of it was taken twice.
pub record IsCalm (t : Telling) (server : Addr) (wanted : MruFilter) (events : List Event) (places : List (Option ℕ)) : Type 0 where
  pub passing : List Row
  pub each : AreOfList t server wanted passing events places
  pub once : AreOnce events places

-- how a client stands amid its listing after these events, from its beginning on
abbrev pub client_after : Addr → Query → List Event → Asking ReaderParts
client_after server query events = after_all listing_dialogue events (ready (new_talk server) (new_reader query))

-- a listing goes on, or completed
abbrev pub IsCompleteIf : Option End → Type 0
IsCompleteIf None = Unit {0}
IsCompleteIf (Some (Listed now)) = Unit {0}
IsCompleteIf (Some BadReply) = ⊥
IsCompleteIf (Some (Refused code)) = ⊥
