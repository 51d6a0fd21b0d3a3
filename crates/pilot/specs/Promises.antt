-- What can be read off the script of a flight: our own words.
use Rattle.std.specs.Prelude.{◌≡◌, ℕ, Bool, true, false, Option, None, Some, List, [], ◌∷◌, ◌++◌, map}
use Rattle.std.specs.List.{flat_map}
use Rattle.edge_traits.specs.declared.port.Event.{Event}
use Rattle.edge_traits.specs.declared.port.Event.TheVariants.{Took, Silence, Sent}
use Rattle.mac_keys.specs.declared.keys.Key.{Key}
use Rattle.server_core.specs.Histories.{records_in}
use Rattle.server_core.specs.declared.op.Op.{Op}
use Rattle.server_core.specs.declared.op.Op.TheVariants.{Publish, Arrive, Look, Read, Sweep, Stop as Stops}
use Rattle.sys_vars.specs.declared.published.Record.{Record}
use Rattle.pilot.specs.Calls.{Cause, Entry}
use Rattle.pilot.specs.Flights.{IsScript}
use Rattle.pilot.specs.Script.{Fate, stands, lacking, refused, Deed, ticks, asks, Got, datagram, swept, unswept, failure, passed, closed, After, takes, breaks, Turn}
use Rattle.pilot.specs.declared.flight.FlightEnd.{FlightEnd}
use Rattle.pilot.specs.declared.flight.FlightEnd.TheVariants.{Closed, Ended}
use Rattle.pilot.specs.declared.steering.Basis.{Basis}
use Rattle.pilot.specs.declared.steering.Steering.{Steering}

-- a flight: its keys, what its records have, what was steered by before and after it, its turns and its end
pub record Flight : Type 0 where
  pub keys : List Key
  pub basis : Basis
  pub before : Steering
  pub turns : List Turn
  pub last : Turn
  pub end : FlightEnd
  pub after : Steering

-- it went by its script
abbrev pub IsFlown : Flight → Type 0
IsFlown f = IsScript f.keys f.basis f.before f.turns f.last f.end f.after

-- the operation that published a record, where it stands
abbrev pub stood_by_fate : Option Fate → List Op
stood_by_fate None = []
stood_by_fate (Some (stands place op)) = op ∷ []
stood_by_fate (Some lacking) = []
stood_by_fate (Some (refused op made stop)) = []

abbrev pub stood_by_deed : Deed → List Op
stood_by_deed (ticks fate) = stood_by_fate fate
stood_by_deed (asks peer to octets gave fate) = stood_by_fate fate

abbrev pub stood_by_got : Got → List Op
stood_by_got (datagram at from octets fate) = stood_by_fate fate
stood_by_got (swept at place) = []
stood_by_got (unswept at made stop) = []
stood_by_got (failure made stop) = []
stood_by_got passed = []
stood_by_got closed = []

abbrev pub stood_by_after : After → List Op
stood_by_after (takes got) = stood_by_got got
stood_by_after (breaks deed) = stood_by_deed deed

-- the operations that published the records of a turn that stand, in their order
abbrev pub stood_by_turn : Turn → List Op
stood_by_turn turn = flat_map stood_by_deed turn.deeds ++ stood_by_after turn.after

-- those of a flight
abbrev pub stood_in : List Turn → Turn → List Op
stood_in turns last = flat_map stood_by_turn turns ++ stood_by_turn last

-- the operations of entries, in their order
abbrev pub ops_of : List Entry → List Op
ops_of entries = map (λ (entry : Entry). entry.op) entries

-- the numbers of the records that operations publish, in their order
abbrev pub epochs_of : List Op → List ℕ
epochs_of ops = map (λ (rec : Record). rec.epoch) (records_in ops)

-- a flight that ended met one stop, at which it ended; one whose port is closed met none
abbrev pub HasCauses : FlightEnd → List Cause → Type 0
HasCauses Closed causes = causes ≡ []
HasCauses (Ended stop) causes = (cause : Cause) × (causes ≡ cause ∷ []) × (cause.stop ≡ stop)

-- a silence of the port
abbrev pub is_silence : Event → Bool
is_silence Silence = true
is_silence (Took from octets) = false
is_silence (Sent to octets) = false

-- a sweep of the client list
abbrev pub is_sweep : Op → Bool
is_sweep (Sweep moment) = true
is_sweep (Publish boxed) = false
is_sweep (Arrive ask moment) = false
is_sweep (Look asked context) = false
is_sweep (Read ask moment) = false
is_sweep (Stops stop) = false

-- a silence that no sweep followed, since a stop stands
abbrev pub unswept_by : After → ℕ
unswept_by (takes (unswept at made stop)) = 1
unswept_by (takes (datagram at from octets fate)) = 0
unswept_by (takes (swept at place)) = 0
unswept_by (takes (failure made stop)) = 0
unswept_by (takes passed) = 0
unswept_by (takes closed) = 0
unswept_by (breaks deed) = 0
