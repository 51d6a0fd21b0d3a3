-- What the parts of a turn do: our own words.
use Rattle.std.specs.Prelude.{◌≡◌, ◌≤◌, ℕ, Option, None, Some, Result, List}
use Rattle.edge_traits.specs.Told.{gained, Rose}
use Rattle.edge_traits.specs.Trace.{given_events}
use Rattle.edge_traits.specs.declared.port.PortFault.{PortFault}
use Rattle.mac_keys.specs.declared.keys.Key.{Key}
use Rattle.net_addr.specs.declared.addr.Addr.{Addr}
use Rattle.server_core.specs.States.{ServerState}
use Rattle.server_core.specs.declared.op.Stop.{Stop}
use Rattle.shared_book.specs.Entries.{View}
use Rattle.wheel.specs.DueTimes.{IsNoneDue}
use Rattle.pilot.specs.Gains.{Gained, IsCounted, failures_of, gain_of_all, gain_of_deed, gain_of_fate, gain_of_give, gain_of_got, gain_of_turn, joined, lacks_of}
use Rattle.pilot.specs.Script.{Deed, Fate, Got, Turn, end_of_after, end_of_got, stop_of_deed, stop_of_fate}
use Rattle.pilot.specs.Steering.{IsAsk}
use Rattle.pilot.specs.Turns.{Chain, Gives, IsDeed, IsDone, IsGot, IsPassed, IsTakenIn, IsTurn}
use Rattle.pilot.specs.Views.{HelmParts}
use Rattle.pilot.specs.declared.deeds.Doing.{Doing}
use Rattle.pilot.specs.declared.deeds.Doing.TheVariants.{NoneDue, Done, Refused}
use Rattle.pilot.specs.declared.flight.FlightEnd.{FlightEnd}
use Rattle.pilot.specs.declared.steering.Basis.{Basis}
use Rattle.pilot.specs.declared.steering.Steering.{Steering}

-- a record of what was steered by is given, once it has changed to this
pub record GivesAt (opening : ServerState) (basis : Basis) (who : ℕ) (from : Steering) (stop : Option Stop) (a : HelmParts) (x : View) (b : HelmParts) (y : View) : Type 0 where
  pub fate : Option Fate
  pub gives : Gives basis from fate b.steering
  pub stop_is : stop ≡ stop_of_fate fate
  pub gained : Gained opening who (gain_of_fate fate) a x b y

-- a request goes out, and the record of the changed reach register is given
pub record AsksAt (opening : ServerState) (keys : List Key) (basis : Basis) (who at peer : ℕ) (stop : Option Stop) (a : HelmParts) (x : View) (b : HelmParts) (y : View) : Type 0 where
  pub to : Addr
  pub octets : List ℕ
  pub gave : Result (Unit {0}) PortFault
  pub fate : Option Fate
  pub between : Steering
  pub asked : IsAsk keys at a.steering peer to octets between
  pub gives : Gives basis between fate b.steering
  pub stop_is : stop ≡ stop_of_fate fate
  pub gained : Gained opening who (joined (gain_of_give to octets gave) (gain_of_fate fate)) a x b y

-- a deed is done
pub record DoesDeed (opening : ServerState) (keys : List Key) (basis : Basis) (who at : ℕ) (stop : Option Stop) (a : HelmParts) (x : View) (b : HelmParts) (y : View) : Type 0 where
  pub deed : Deed
  pub is_deed : IsDeed keys basis at a.steering deed b.steering
  pub stop_is : stop ≡ stop_of_deed deed
  pub gained : Gained opening who (gain_of_deed deed) a x b y

-- the first deed that is due is done, if there is one
abbrev pub DoesFirst : ServerState → List Key → Basis → ℕ → ℕ → Doing → HelmParts → View → HelmParts → View → Type 0
DoesFirst opening keys basis who at NoneDue a x b y = IsNoneDue a.steering.due at × (b ≡ a) × (y ≡ x)
DoesFirst opening keys basis who at Done a x b y = DoesDeed opening keys basis who at None a x b y
DoesFirst opening keys basis who at (Refused stop) a x b y = DoesDeed opening keys basis who at (Some stop) a x b y

-- a deed whose record met this stop, or none
abbrev pub doing_of : Option Stop → Doing
doing_of None = Done
doing_of (Some stop) = Refused stop

-- deeds whose records were not refused
pub record DoesDeeds (opening : ServerState) (keys : List Key) (basis : Basis) (who at : ℕ) (a : HelmParts) (x : View) (b : HelmParts) (y : View) : Type 0 where
  pub deeds : List Deed
  pub done : Chain (IsDone keys basis at) a.steering deeds b.steering
  pub gained : Gained opening who (gain_of_all gain_of_deed deeds) a x b y

-- deeds, and one whose record was refused
pub record BreaksOff (opening : ServerState) (keys : List Key) (basis : Basis) (who at : ℕ) (stop : Stop) (a : HelmParts) (x : View) (b : HelmParts) (y : View) : Type 0 where
  pub deeds : List Deed
  pub last : Deed
  pub between : Steering
  pub done : Chain (IsDone keys basis at) a.steering deeds between
  pub is_deed : IsDeed keys basis at between last b.steering
  pub stop_is : stop_of_deed last ≡ Some stop
  pub gained : Gained opening who (joined (gain_of_all gain_of_deed deeds) (gain_of_deed last)) a x b y

-- all that is due is done, up to a deed whose record is refused
abbrev pub DoesDue : ServerState → List Key → Basis → ℕ → ℕ → Option Stop → HelmParts → View → HelmParts → View → Type 0
DoesDue opening keys basis who at None a x b y = DoesDeeds opening keys basis who at a x b y × IsNoneDue b.steering.due at
DoesDue opening keys basis who at (Some stop) a x b y = BreaksOff opening keys basis who at stop a x b y

-- what the port gives is taken
pub record Receives (opening : ServerState) (keys : List Key) (basis : Basis) (who : ℕ) (end : Option FlightEnd) (a : HelmParts) (x : View) (b : HelmParts) (y : View) : Type 0 where
  pub got : Got
  pub is_got : IsGot keys basis a.steering got b.steering
  pub end_is : end ≡ end_of_got got
  pub gained : Gained opening who (gain_of_got got) a x b y

-- a turn is made
pub record TakesTurn (opening : ServerState) (keys : List Key) (basis : Basis) (who : ℕ) (end : Option FlightEnd) (a : HelmParts) (x : View) (b : HelmParts) (y : View) : Type 0 where
  pub turn : Turn
  pub is_turn : IsTurn keys basis a.steering turn b.steering
  pub end_is : end ≡ end_of_after turn.after
  pub gained : Gained opening who (gain_of_turn turn) a x b y

-- turns of which none makes an end
pub record TakesTurns (opening : ServerState) (keys : List Key) (basis : Basis) (who : ℕ) (a : HelmParts) (x : View) (b : HelmParts) (y : View) : Type 0 where
  pub turns : List Turn
  pub passed : Chain (IsPassed keys basis) a.steering turns b.steering
  pub gained : Gained opening who (gain_of_all gain_of_turn turns) a x b y

-- a request goes out to the server of this number; the port may not give it
pub record Asks (keys : List Key) (at peer : ℕ) (a b : HelmParts) : Type 0 where
  pub to : Addr
  pub octets : List ℕ
  pub gave : Result (Unit {0}) PortFault
  pub asked : IsAsk keys at a.steering peer to octets b.steering
  pub trace : b.outside.trace ≡ gained a.outside.trace (given_events gave to octets)
  pub failed : Rose (failures_of gave) a.outside.faults b.outside.faults
  pub faults_kept : a.outside.faults ≤ b.outside.faults
  pub quiets_kept : a.outside.quiets ≤ b.outside.quiets
  pub address_kept : b.outside.address ≡ a.outside.address
  pub most_kept : b.outside.most ≡ a.outside.most
  pub readings_kept : b.outside.readings ≡ a.outside.readings
  pub left : IsCounted (lacks_of gave) a.left b.left

-- a datagram is heard, and a record given where one is due
pub record TakesIn (opening : ServerState) (keys : List Key) (basis : Basis) (who at : ℕ) (from : Addr) (octets : List ℕ) (stop : Option Stop) (a : HelmParts) (x : View) (b : HelmParts) (y : View) : Type 0 where
  pub fate : Option Fate
  pub taken_in : IsTakenIn keys basis at a.steering from octets fate b.steering
  pub stop_is : stop ≡ stop_of_fate fate
  pub gained : Gained opening who (gain_of_fate fate) a x b y
