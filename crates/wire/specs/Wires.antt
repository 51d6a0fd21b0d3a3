-- What happened at both ends of a wire, and which wires are honest: our own words.
use Rattle.std.specs.Prelude.{◌≡◌, ℕ, ◌+◌, ◌≤◌, List, [], ◌∷◌, ◌++◌, length, Contains}
use Rattle.std.specs.List.{AllByRecursion}
use Rattle.edge_traits.specs.declared.port.Event.{Event}
use Rattle.edge_traits.specs.declared.port.Event.TheVariants.{Took, Silence, Sent}
use Rattle.list_telling.specs.Requests.{IsListRequest}
use Rattle.mode6_frame.specs.Frames.{FrameParts}
use Rattle.mode6_frame.specs.Places.{frame_at}
use Rattle.net_addr.specs.declared.addr.Addr.{Addr}
use Rattle.ntpq_client.specs.declared.client.TheConstants.{MAX_REQUESTS}
use Rattle.server_core.specs.declared.op.Op.{Op}
use Rattle.server_core.specs.Control.{IsRequest}
use Rattle.server_core.specs.States.{ServerState}
use Rattle.shared_book.specs.declared.common.Common.{Common}
use Rattle.worker.specs.declared.act.Act.{Act}
use Rattle.worker.specs.Acts.{AreActs, Climbs, places_of}
use Rattle.worker.specs.Doings.{heard}
use Rattle.wire.specs.declared.wire.WireEvent.{WireEvent}
use Rattle.wire.specs.declared.wire.WireEvent.TheVariants.{Client, Worker}

-- what happened at the client's port
abbrev pub client_events : List WireEvent → List Event
client_events [] = []
client_events (Client event ∷ wire) = event ∷ client_events wire
client_events (Worker event ∷ wire) = client_events wire

-- what happened at the worker's port
abbrev pub worker_events : List WireEvent → List Event
worker_events [] = []
worker_events (Client event ∷ wire) = worker_events wire
worker_events (Worker event ∷ wire) = event ∷ worker_events wire

-- what a client of this address took from the server, the worker had sent to it before; what the worker took from the client,
-- the client had sent to the server before; `before` has what happened until then, newest first
abbrev pub AreCarried : Addr → Addr → List WireEvent → List WireEvent → Type 0
AreCarried server client before [] = Unit {0}
AreCarried server client before (Client (Took from octets) ∷ wire) =
    (from ≡ server → Contains before (Worker (Sent client octets)))
    × AreCarried server client (Client (Took from octets) ∷ before) wire
AreCarried server client before (Worker (Took from octets) ∷ wire) =
    (from ≡ client → Contains before (Client (Sent server octets)))
    × AreCarried server client (Worker (Took from octets) ∷ before) wire
AreCarried server client before (event ∷ wire) = AreCarried server client (event ∷ before) wire

-- what a client sends to a server whose clocks begin at this time are requests of a listing, in whole control messages, with the
-- sequence numbers after this one, one after another
abbrev pub AreListing : Addr → ℕ → ℕ → List Event → Type 0
AreListing server origin posted [] = posted ≤ MAX_REQUESTS
AreListing server origin posted (Sent to octets ∷ events) =
    (to ≡ server) × ((frame_at octets).sequence ≡ posted + 1)
    × ((f : FrameParts) × IsRequest octets f) × IsListRequest (frame_at octets) origin
    × AreListing server origin (posted + 1) events
AreListing server origin posted (event ∷ events) = AreListing server origin posted events

-- A wire is honest: it brings to each end only what the other had sent there before, however often, late and in whatever order;
-- and the client lists clients.
pub record IsHonest (server client : Addr) (origin : ℕ) (wire : List WireEvent) : Type 0 where
  pub carried : AreCarried server client [] wire
  pub listing : AreListing server origin 0 (client_events wire)

-- an event is a take of a datagram
abbrev pub IsTake : Event → Type 0
IsTake (Took from octets) = Unit {0}
IsTake Silence = ⊥
IsTake (Sent to octets) = ⊥

-- What the worker of a wire did in a session: it began without a carry; each datagram that it took is that of one act, or the
-- last is carried; and its acts name later places one after another.
pub record IsWorkers (common : Common) (opening : ServerState) (history : List Op) (acts : List Act) (wire : List WireEvent) : Type 0 where
  pub told : List Event
  pub carried : List Event
  pub answered : AreActs common opening history acts told
  pub heard_are : heard (worker_events wire) ≡ told ++ carried
  pub takes : AllByRecursion IsTake carried
  pub climb : Climbs 0 (places_of acts) (length history)
