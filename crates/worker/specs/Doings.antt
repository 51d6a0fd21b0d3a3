-- What a worker did between two moments of a session: our own words.
use Rattle.std.specs.Prelude.{◌≡◌, ◌+◌, ◌≤◌, ℕ, Bool, true, false, not, Option, Some, None, List, [], ◌∷◌, ◌++◌, length}
use Rattle.std.specs.List.{count_by, filter}
use mathlib.Core.List.{IsPrefix, Sublist}
use Rattle.net_addr.specs.declared.addr.Addr.{Addr}
use Rattle.edge_traits.specs.declared.port.Event.{Event}
use Rattle.edge_traits.specs.declared.port.Event.TheVariants.{Took, Silence, Sent}
use Rattle.edge_traits.specs.Told.{gained, Grows, Rose}
use Rattle.server_core.specs.declared.op.Op.{Op}
use Rattle.server_core.specs.States.{ServerState}
use Rattle.turnstile.specs.Histories.{times}
use Rattle.shared_book.specs.declared.common.Common.{Common}
use Rattle.shared_book.specs.Entries.{IsSameSeat, View}
use Rattle.worker.specs.declared.act.Act.{Act}
use Rattle.worker.specs.declared.act.TheConstants.{MAX_ACTS}
use Rattle.worker.specs.declared.carry.Carry.{Carry}
use Rattle.worker.specs.Acts.{AreActs, Climbs, failures_in, places_of, readings_of}
use Rattle.worker.specs.Others.{AreOthers, Other, other_places, port_stops_in, sweep_moments, sweeps_in}
use Rattle.worker.specs.Workers.{WorkerView}

-- A worker at its seat: its number, its acts, the datagram that it carries, what its port and its clock tell, the counts of
-- its port, the port's address and the longest give, and what the seat knows.
pub record Doing : Type 0 where
  pub who : ℕ
  pub acts : List Act
  pub carry : Option Carry
  pub trace : Option (List Event)
  pub readings : Option (List ℕ)
  pub faults : ℕ
  pub quiets : ℕ
  pub address : Addr
  pub most : ℕ
  pub seat : View

-- a worker of such a port and such a clock, at this seat
abbrev pub doing_of : {P C : Type 0} → (P → Option (List Event)) → (P → ℕ) → (P → ℕ) → (P → Addr) → (P → ℕ) → (C → Option (List ℕ)) → WorkerView P C → View → Doing
doing_of trace faults quiets address most readings worker seat = record {
  who = worker.who;
  acts = worker.acts;
  carry = worker.carry;
  trace = trace worker.port;
  readings = readings worker.clock;
  faults = faults worker.port;
  quiets = quiets worker.port;
  address = address worker.port;
  most = most worker.port;
  seat = seat;
}

-- a carried datagram was taken
abbrev pub carried : Option Carry → List Event
carried None = []
carried (Some carry) = Took carry.from carry.bytes ∷ []

-- a take that found nothing for a while
abbrev pub is_silence : Event → Bool
is_silence (Took from octets) = false
is_silence Silence = true
is_silence (Sent to octets) = false

-- the events of a port without its silences
abbrev pub heard : List Event → List Event
heard events = filter (λ event. not (is_silence event)) events

-- how many takes found nothing for a while
abbrev pub silences_in : List Event → ℕ
silences_in events = count_by is_silence events

-- a worker stays the one that it is, at the same port
pub record IsSameWorker (a b : Doing) : Type 0 where
  pub who_kept : b.who ≡ a.who
  pub address_kept : b.address ≡ a.address
  pub most_kept : b.most ≡ a.most

-- What a worker did between two moments, by a history that its seat has seen a front of; so many of its silences lack their
-- sweep.
pub record Did (common : Common) (opening : ServerState) (history : List Op) (lacking : ℕ) (a b : Doing) : Type 0 where
  -- its acts, what it entered beside them, the events of its port and those that its acts tell, and the readings of its clock
  pub more : List Act
  pub others : List Other
  pub events : List Event
  pub told : List Event
  pub readings : List ℕ
  -- each datagram that it took is that of one act, or it carries it
  pub acts_are : b.acts ≡ a.acts ++ more
  pub answered : AreActs common opening history more told
  pub heard_are : carried a.carry ++ heard events ≡ told ++ carried b.carry
  pub trace_is : b.trace ≡ gained a.trace events
  pub few : length a.acts ≤ MAX_ACTS → length b.acts ≤ MAX_ACTS
  -- its clock
  pub readings_are : Grows a.readings b.readings readings
  pub read : Sublist (readings_of more) readings
  pub swept_at : Sublist (sweep_moments others) readings
  -- its own calls are those of its acts and what it entered beside them, each at a later place
  pub longer : IsPrefix a.seat.front b.seat.front
  pub seen : IsPrefix b.seat.front history
  pub places : Climbs (length a.seat.front) (places_of more) (length b.seat.front)
  pub other_places_climb : Climbs (length a.seat.front) (other_places others) (length b.seat.front)
  pub own_are : (place : ℕ) → times place b.seat.own ≡ times place a.seat.own + (times place (places_of more) + times place (other_places others))
  pub others_are : AreOthers opening a.who (length b.acts) history others
  -- each silence has its sweep, but those that lack it
  pub silences : silences_in events ≡ sweeps_in others + lacking
  -- the counts of its port
  pub failed : Rose (failures_in more + port_stops_in others) a.faults b.faults
  pub quiet : Rose (silences_in events) a.quiets b.quiets
  -- what stays
  pub worker_kept : IsSameWorker a b
  pub seat_kept : IsSameSeat a.seat b.seat
