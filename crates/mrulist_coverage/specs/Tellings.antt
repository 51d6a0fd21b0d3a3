-- What a server's answers tell a client that lists its clients, over one history of the client list: our own words.
use Rattle.std.specs.Prelude.{◌≡◌, ◌⊎◌, ℕ, suc, ◌^◌, ◌<◌, ◌≤◌, ◌==◌, max, if◌then◌else◌, Option, Some, None, List, [], ◌∷◌, length, codes, slice_get, Contains}
use Rattle.std.specs.List.{AllByRecursion}
use Rattle.edge_traits.specs.declared.port.Event.{Event}
use Rattle.edge_traits.specs.declared.port.Event.TheVariants.{Took, Silence, Sent}
use Rattle.hex.specs.Hex.{lower_digits}
use Rattle.mode6_frame.specs.declared.errors.TheConstants.{BAD_NAME, PROHIBITED}
use Rattle.mode6_frame.specs.declared.items.Item.{Item}
use Rattle.mode6_frame.specs.declared.operations.TheConstants.{OP_READ_MRU, OP_READ_NONCE}
use Rattle.mode6_frame.specs.Frames.{FrameParts}
use Rattle.mode6_frame.specs.Items.{IsItemText}
use Rattle.mode6_frame.specs.ItemTexts.{plain_text}
use Rattle.mode6_frame.specs.Places.{frame_at}
use Rattle.mode6_frame.specs.Served.{Refusal, Body, Listed, IsDatagramOf}
use Rattle.mru_items.specs.declared.answer.TheConstants.{NONCE_OCTETS}
use Rattle.mru_items.specs.declared.query.ReadRequest.{ReadRequest}
use Rattle.mru_items.specs.Names.{valued}
use Rattle.mru_items.specs.Queries.{IsReadOf}
use Rattle.mru_read.specs.declared.pages.Page.{Page}
use Rattle.mru_read.specs.Histories.{ListHistory, IsListHistory, Read, list_at, page_at}
use Rattle.mru_read.specs.Pages.{IsTellableRow, items_of_page}
use Rattle.net_addr.specs.declared.addr.Addr.{Addr}

-- octets of a nonce: 24 lower-case hexadecimal digits
pub record IsNonce (nonce : List ℕ) : Type 0 where
  pub length_is : length nonce ≡ NONCE_OCTETS
  pub digits : AllByRecursion (λ digit. Contains lower_digits digit) nonce

-- what a server tells of its client list: the history of the list, the time at which the server's clocks begin, and, by the
-- place of a read, the nonce that its page carries and the status that it has
pub record Telling : Type 0 where
  pub history : ListHistory
  pub origin : ℕ
  pub nonce : ℕ → List ℕ
  pub status : ℕ → ℕ

-- it tells a list history whose clients can be told
pub record IsTelling (t : Telling) : Type 0 where
  pub is_history : IsListHistory t.history
  pub origin : t.origin < 2 ^ 64
  pub nonces : (place : ℕ) → IsNonce (t.nonce place)
  pub rows : (place : ℕ) → AllByRecursion IsTellableRow (list_at t.history place).rows

-- what a client has sent and seen: by sequence number the request that was sent last, and a number above the place of each
-- read whose answer had been taken when it was sent; and a number above the place of each read whose answer was taken
pub record Known : Type 0 where
  pub asked : ℕ → Option FrameParts
  pub floor : ℕ → ℕ
  pub seen : ℕ

-- a client before its first request
abbrev pub nothing_known : Known
nothing_known = record { asked = λ sequence. None; floor = λ sequence. 0; seen = 0 }

-- what is known after a request was sent
abbrev pub after_sent : FrameParts → Known → Known
after_sent request known = record {
  asked = λ sequence. if sequence == request.sequence then Some request else known.asked sequence;
  floor = λ sequence. if sequence == request.sequence then known.seen else known.floor sequence;
  seen = known.seen;
}

-- what is known after a datagram was taken that tells of a read at this place, or of none
abbrev pub after_taken : Option ℕ → Known → Known
after_taken None known = known
after_taken (Some place) known = record known { seen = max known.seen (suc place) }

-- at a place of a history stands the read that a request asks for, at this moment
pub record IsReadAt (t : Telling) (place : ℕ) (request : FrameParts) (read : ReadRequest) (moment : ℕ) : Type 0 where
  pub items : List Item
  pub text : IsItemText request.body items
  pub asks : IsReadOf items t.origin read
  pub stands : slice_get t.history.moves place ≡ Some (Read read moment)

-- a response is the refusal of a read whose pairs do not stand, or a datagram of its page
abbrev pub IsOfPage : Telling → ℕ → Option Page → FrameParts → Type 0
IsOfPage t place None f = IsDatagramOf (Refusal BAD_NAME) f
IsOfPage t place (Some page) f =
    IsDatagramOf (Listed (t.status place) page.now (items_of_page page (t.nonce place) t.origin)) f

-- a response answers the read at a place
pub record IsOfRead (t : Telling) (request f : FrameParts) (place : ℕ) : Type 0 where
  pub read : ReadRequest
  pub moment : ℕ
  pub is_at : IsReadAt t place request read moment
  pub of_page : IsOfPage t place (page_at (list_at t.history place) read moment) f

-- a response is the datagram that tells a nonce
abbrev pub IsOfNonce : FrameParts → Type 0
IsOfNonce f =
    (status : ℕ) × (nonce : List ℕ) × IsNonce nonce × IsDatagramOf (Body status (plain_text (valued (codes "nonce") nonce ∷ []))) f

-- a response answers a request: a request for a nonce by a nonce, and a read by what the history has at the place, which is
-- not below this number; or a read is prohibited
abbrev pub Answers : Telling → FrameParts → ℕ → Option ℕ → FrameParts → Type 0
Answers t request floor None f =
    ((request.opcode ≡ OP_READ_NONCE) × IsOfNonce f) ⊎ ((request.opcode ≡ OP_READ_MRU) × IsDatagramOf (Refusal PROHIBITED) f)
Answers t request floor (Some place) f =
    (request.opcode ≡ OP_READ_MRU) × (floor ≤ place) × IsOfRead t request f place

-- a response answers a request that was sent before
abbrev pub AnswersSent : Telling → Option FrameParts → ℕ → Option ℕ → FrameParts → Type 0
AnswersSent t None floor place f = ⊥
AnswersSent t (Some request) floor place f = Answers t request floor place f

-- a datagram that was taken from the server answers a request that was sent before it, by the read at this place or by none
abbrev pub IsToldAt : Telling → Addr → Known → Addr → FrameParts → Option ℕ → Type 0
IsToldAt t server known from f place =
    from ≡ server → AnswersSent t (known.asked f.sequence) (known.floor f.sequence) place f

-- what happened at a client's port is told from a history, with the places of the reads that the datagrams tell of, one for
-- each datagram that was taken: a datagram may be lost, come again or late; a request may be answered at several places; but
-- a request that was sent after an answer was taken is served after it
abbrev pub IsToldFrom : Telling → Addr → Known → List Event → List (Option ℕ) → Type 0
IsToldFrom t server known [] places = places ≡ []
IsToldFrom t server known (Silence ∷ events) places = IsToldFrom t server known events places
IsToldFrom t server known (Sent to octets ∷ events) places =
    IsToldFrom t server (after_sent (frame_at octets) known) events places
IsToldFrom t server known (Took from octets ∷ events) [] = ⊥
IsToldFrom t server known (Took from octets ∷ events) (place ∷ places) =
    IsToldAt t server known from (frame_at octets) place × IsToldFrom t server (after_taken place known) events places
