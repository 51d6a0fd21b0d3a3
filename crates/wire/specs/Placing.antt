-- The places of the reads that a client's datagrams tell of: our own words.
use Rattle.std.specs.Prelude.{ℕ, cond, drop, bytes_eq, Option, Some, None, List, [], ◌∷◌, ◌++◌}
use Rattle.edge_traits.specs.declared.port.Event.TheVariants.{Took, Sent}
use Rattle.net_addr.specs.Addresses.{same_addr}
use Rattle.net_addr.specs.declared.addr.Addr.{Addr}
use Rattle.worker.specs.declared.act.Act.{Act}
use Rattle.worker.specs.declared.act.ActKind.{ActKind}
use Rattle.worker.specs.declared.act.ActKind.TheVariants.{Read, Dropped}
use Rattle.worker.specs.declared.act.ReadKind.TheVariants.{Refused, Page}
use Rattle.wire.specs.declared.wire.WireEvent.{WireEvent}
use Rattle.wire.specs.declared.wire.WireEvent.TheVariants.{Client, Worker}

-- the place of an act's read: of one that came to a page, and of one whose clients do not stand as named; where memory was
-- wanting after some datagrams of an answer were given, that of what was entered, since of the answers to a listing's
-- requests only a page has several
abbrev pub read_place : ActKind → Option ℕ
read_place (Read place Refused) = Some place
read_place (Read place Page) = Some place
read_place (Dropped place) = place
read_place _ = None

-- a datagram that the worker gave to the client, and the place of the read that it answers, if any
pub record Offer : Type 0 where
  pub place : Option ℕ
  pub octets : List ℕ

-- the place of the first of these that has these octets, oldest first
abbrev pub place_in : List Offer → List ℕ → Option ℕ
place_in [] octets = None
place_in (offer ∷ offers) octets = cond (bytes_eq offer.octets octets) offer.place (place_in offers octets)

-- a datagram as it is offered, where it was given to the client
abbrev pub offer_to : Addr → Option ℕ → Addr → List ℕ → List Offer
offer_to client place to octets = cond (same_addr client to) (record { place = place; octets = octets } ∷ []) []

-- the place of the first of these acts
abbrev pub first_place : List Act → Option ℕ
first_place [] = None
first_place (act ∷ acts) = read_place act.kind

-- the places for what the client takes from here on, where the worker has these acts to come, answers the datagram of an act
-- with this place, and has given these to the client: each datagram that the client takes has that of the first which has
-- its octets
abbrev pub places_by : Addr → List Act → Option ℕ → List Offer → List WireEvent → List (Option ℕ)
places_by client acts place offers [] = []
places_by client acts place offers (Client (Took from octets) ∷ wire) =
    place_in offers octets ∷ places_by client acts place offers wire
places_by client acts place offers (Client event ∷ wire) = places_by client acts place offers wire
places_by client acts place offers (Worker (Took from octets) ∷ wire) =
    places_by client (drop 1 acts) (first_place acts) offers wire
places_by client acts place offers (Worker (Sent to octets) ∷ wire) =
    places_by client acts place (offers ++ offer_to client place to octets) wire
places_by client acts place offers (Worker event ∷ wire) = places_by client acts place offers wire

-- the places for what a client of this address takes over a wire whose worker has these acts
abbrev pub places_in : Addr → List Act → List WireEvent → List (Option ℕ)
places_in client acts wire = places_by client acts None [] wire
