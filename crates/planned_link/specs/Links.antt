-- What a give and a take do to a link: our own words.
use Rattle.std.specs.Prelude.{◌≡◌, ℕ, ◌+◌, ◌-◌, ◌^◌, min, Option, Result, Ok, Err, List, [], ◌∷◌, ◌++◌, drop}
use Rattle.net_addr.specs.declared.addr.Addr.{Addr}
use Rattle.edge_traits.specs.declared.port.Event.{Event}
use Rattle.edge_traits.specs.declared.port.Event.TheVariants.{Took, Silence, Sent}
use Rattle.edge_traits.specs.declared.port.Taken.{Taken}
use Rattle.edge_traits.specs.declared.port.Taken.TheVariants.{Datagram, Quiet, Closed}
use Rattle.edge_traits.specs.declared.port.PortFault.{PortFault}
use Rattle.edge_traits.specs.declared.port.PortFault.TheVariants.{Failed, NoMemory}
use Rattle.edge_traits.specs.declared.salt.Salt.{Salt}
use Rattle.edge_traits.specs.Counts.{next_count}
use Rattle.server_core.specs.Books.{BookParts}
use Rattle.planned_link.specs.declared.deed.Deed.{Deed}
use Rattle.planned_link.specs.declared.link.TheConstants.{TICK}
use Rattle.planned_link.specs.declared.queued.Queued.{Queued}
use Rattle.planned_link.specs.Fates.{fated, first_deed}
use Rattle.planned_link.specs.Services.{DeliveryParts, IsBrought, IsServed}

-- a link between two calls: its server and the server's secret, the address of the client, the moment of the last call, the
-- deeds of the gives to come, the datagrams that the client has not taken, the place of the read for each one that it took,
-- how many gives there were and how many takes that found nothing, and what happened at the client's port
pub record LinkParts : Type 0 where
  pub book : BookParts
  pub from : Addr
  pub salt : Salt
  pub moment : ℕ
  pub plan : List Deed
  pub queue : List Queued
  pub places : List (Option ℕ)
  pub given : ℕ
  pub quiets : ℕ
  pub trace : List Event

-- the moment of the next call
abbrev pub next_moment : ℕ → ℕ
next_moment moment = min (moment + TICK) (2 ^ 64 - 1)

-- a link at its next take
abbrev pub taking : LinkParts → LinkParts
taking l = record l { moment = next_moment l.moment }

-- a link at its next give, whose deed has left the plan
abbrev pub giving : LinkParts → LinkParts
giving l = record l { moment = next_moment l.moment; plan = drop 1 l.plan; given = min (l.given + 1) (2 ^ 32 - 1) }

-- a datagram that is given to this address, as it comes to the server: no keys are known
abbrev pub delivery_at : LinkParts → Addr → List ℕ → DeliveryParts
delivery_at l to octets = record {
  keys = [];
  context = record { salt = l.salt; origin = l.book.state.origin; moment = next_moment l.moment };
  from = l.from;
  to = to;
  octets = octets;
}

-- a give, by its answer: the server takes the operations of the deed and then the datagram as often as the deed says, the
-- give is told, and the datagrams of the answers are queued by their fates; for want of memory nothing is told and queued
abbrev pub IsGiven : LinkParts → Addr → List ℕ → Result (Unit {0}) PortFault → LinkParts → Type 0
IsGiven old to octets (Ok done) new =
    (book : BookParts) × (answers : List Queued)
    × IsServed (first_deed old.plan).ops (first_deed old.plan).served (delivery_at old to octets) old.book answers book
    × (new ≡ record (giving old) {
      book = book;
      queue = fated (first_deed old.plan).fates answers old.queue;
      trace = old.trace ++ Sent to octets ∷ [];
    })
IsGiven old to octets (Err Failed) new = ⊥
IsGiven old to octets (Err NoMemory) new =
    (book : BookParts)
    × IsBrought (first_deed old.plan).ops (first_deed old.plan).served (delivery_at old to octets) old.book book
    × (new ≡ record (giving old) { book = book })

-- a take, by its answer: the front of the queue is taken, and told with the place of its read; or the queue is empty
abbrev pub IsTaken : LinkParts → Result Taken PortFault → List ℕ → List ℕ → LinkParts → Type 0
IsTaken old (Ok (Datagram from)) before octets new =
    (place : Option ℕ) × (later : List Queued)
    × (old.queue ≡ record { from = from; octets = octets; place = place } ∷ later)
    × (new ≡ record (taking old) {
      queue = later;
      places = old.places ++ place ∷ [];
      trace = old.trace ++ Took from octets ∷ [];
    })
IsTaken old (Ok Quiet) before octets new =
    (old.queue ≡ []) × (octets ≡ before)
    × (new ≡ record (taking old) { quiets = next_count old.quiets; trace = old.trace ++ Silence ∷ [] })
IsTaken old (Ok Closed) before octets new = ⊥
IsTaken old (Err Failed) before octets new = ⊥
IsTaken old (Err NoMemory) before octets new = (octets ≡ before) × (new ≡ taking old)
