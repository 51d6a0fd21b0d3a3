-- The answers that a history has to reads, and those that served what a client took.
use Rattle.std.specs.Prelude.{ℕ, ◌/◌, ◌^◌, ◌==◌, Bool, true, false, ◌&&◌, cond, Option, Some, None, List, [], ◌∷◌, slice_get}
use Rattle.edge_traits.specs.declared.port.Event.{Event}
use Rattle.edge_traits.specs.declared.port.Event.TheVariants.{Took, Silence, Sent}
use Rattle.mode6_frame.specs.declared.errors.TheConstants.{BAD_NAME}
use Rattle.mode6_frame.specs.Frames.{FrameParts}
use Rattle.mode6_frame.specs.Places.{frame_at}
use Rattle.mode6_frame.specs.Served.{Served, Refusal, Body, Listed}
use Rattle.mru_read.specs.declared.pages.Page.{Page}
use Rattle.mru_read.specs.Histories.{Move, Still, Touch, Sweep, Read, list_at, page_at}
use Rattle.mru_read.specs.Pages.{items_of_page}
use Rattle.mrulist_coverage.specs.Tellings.{Telling}
use Rattle.net_addr.specs.Addresses.{same_addr}
use Rattle.net_addr.specs.declared.addr.Addr.{Addr}

-- the answer to a read at a place that came to this page, or to none
abbrev pub served_page : Telling → ℕ → Option Page → Served
served_page t place None = Refusal BAD_NAME
served_page t place (Some page) = Listed (t.status place) page.now (items_of_page page (t.nonce place) t.origin)

-- the answer to what stands at a place, where it is a read
abbrev pub served_move : Telling → ℕ → Option Move → Served
served_move t place None = Refusal 0
served_move t place (Some Still) = Refusal 0
served_move t place (Some (Touch visit moment is_told)) = Refusal 0
served_move t place (Some (Sweep moment)) = Refusal 0
served_move t place (Some (Read read moment)) = served_page t place (page_at (list_at t.history place) read moment)

-- the answer to the read at a place
abbrev pub served_at : Telling → ℕ → Served
served_at t place = served_move t place (slice_get t.history.moves place)

-- the answer that a datagram is of which tells of no read: a refusal, or its body
abbrev pub served_alone : Bool → FrameParts → Served
served_alone true f = Refusal (f.status / 2 ^ 8)
served_alone false f = Body f.status f.body

-- the answer that a datagram is of, by the place of which it tells
abbrev pub served_by : Telling → FrameParts → Option ℕ → Served
served_by t f None = served_alone f.error f
served_by t f (Some place) = served_at t place

-- a datagram comes from the server, in answer to the request of this sequence number
abbrev pub is_answer_to : Addr → ℕ → Addr → FrameParts → Bool
is_answer_to server sequence from f = same_addr from server && (f.sequence == sequence)

-- the answers to the request of a sequence number, for what was taken from the server, by the places of which it tells
abbrev pub answers_by : Telling → Addr → List Event → List (Option ℕ) → ℕ → List Served
answers_by t server [] places sequence = []
answers_by t server (Silence ∷ events) places sequence = answers_by t server events places sequence
answers_by t server (Sent to octets ∷ events) places sequence = answers_by t server events places sequence
answers_by t server (Took from octets ∷ events) [] sequence = []
answers_by t server (Took from octets ∷ events) (place ∷ places) sequence =
    cond (is_answer_to server sequence from (frame_at octets))
    (served_by t (frame_at octets) place ∷ answers_by t server events places sequence)
    (answers_by t server events places sequence)
