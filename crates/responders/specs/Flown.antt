-- What the pilot did in a session: our own words.
use Rattle.std.specs.Prelude.{◌≡◌, ℕ, Some, List}
use mathlib.Core.List.{IsPrefix}
use Rattle.server_core.specs.declared.op.Op.{Op}
use Rattle.server_core.specs.States.{ServerState, stop_in}
use Rattle.shared_book.specs.declared.common.Common.{Common}
use Rattle.shared_book.specs.Entries.{View}
use Rattle.pilot.specs.Flights.{IsFlight}
use Rattle.pilot.specs.Views.{HelmParts, PilotParts}
use Rattle.pilot.specs.declared.flight.FlightEnd.{FlightEnd}
use Rattle.pilot.specs.declared.flight.FlightEnd.TheVariants.{Closed, Ended}
use Rattle.pilot.specs.declared.steering.Basis.{Basis}
use Rattle.responders.specs.Parts.{IsNewSeat}

-- a stop by which a flight ended stands in the history
abbrev pub StandsAfter : List Op → FlightEnd → Type 0
StandsAfter history Closed = Unit {0}
StandsAfter history (Ended stop) = stop_in history ≡ Some stop

-- a pilot that was made ready, at its seat, before a session and after it, what its records have, and how its flight ended
pub record Flown : Type 0 where
  pub basis : Basis
  pub before : HelmParts
  pub from : View
  pub after : HelmParts
  pub to : View
  pub end : FlightEnd

-- the pilot of this number flew in this history, from a new seat
pub record HasFlown (common : Common) (opening : ServerState) (history : List Op) (who : ℕ) (flown : Flown) : Type 0 where
  pub new_seat : IsNewSeat opening flown.from
  pub flight : IsFlight opening common.keys flown.basis who flown.end flown.before flown.from flown.after flown.to
  pub seen : IsPrefix flown.to.front history
  pub stands : StandsAfter history flown.end

-- it flew as this pilot, which had been made ready, and left it so
pub record IsPiloted (ready : PilotParts) (flown : Flown) (new : PilotParts) : Type 0 where
  pub before_is : ready ≡ record { helm = flown.before; basis = Some flown.basis }
  pub after_is : new ≡ record { helm = flown.after; basis = Some flown.basis }
