-- A whole flight of a pilot, as a script of turns: our own words.
use Rattle.std.specs.Prelude.{◌≡◌, ℕ, Option, None, Some, IsSome, List}
use Rattle.mac_keys.specs.declared.keys.Key.{Key}
use Rattle.server_core.specs.States.{ServerState}
use Rattle.shared_book.specs.Entries.{View}
use Rattle.sys_vars.specs.declared.published.Record.{Record}
use Rattle.pilot.specs.Gains.{Gain, Gained, gain_of_all, gain_of_turn, joined}
use Rattle.pilot.specs.Script.{Turn, end_of_after}
use Rattle.pilot.specs.Steering.{HasRoom, fitted, readied}
use Rattle.pilot.specs.Turns.{Chain, IsPassed, IsTurn}
use Rattle.pilot.specs.Views.{HelmParts, PilotParts}
use Rattle.pilot.specs.declared.flight.FlightEnd.{FlightEnd}
use Rattle.pilot.specs.declared.steering.Basis.{Basis}
use Rattle.pilot.specs.declared.steering.Steering.{Steering}

-- turns of which only the last makes an end, by the rules
pub record IsScript (keys : List Key) (basis : Basis) (before : Steering) (turns : List Turn) (last : Turn) (end : FlightEnd) (after : Steering) : Type 0 where
  pub between : Steering
  pub passed : Chain (IsPassed keys basis) before turns between
  pub ended : IsTurn keys basis between last after
  pub end_is : end_of_after last.after ≡ Some end

-- what a flight gains: what its turns do
abbrev pub gain_of_flight : List Turn → Turn → Gain
gain_of_flight turns last = joined (gain_of_all gain_of_turn turns) (gain_of_turn last)

-- a flight went by a script, and gained what that gains
pub record IsFlight (opening : ServerState) (keys : List Key) (basis : Basis) (who : ℕ) (end : FlightEnd) (a : HelmParts) (x : View) (b : HelmParts) (y : View) : Type 0 where
  pub turns : List Turn
  pub last : Turn
  pub script : IsScript keys basis a.steering turns last end b.steering
  pub gained : Gained opening who (gain_of_flight turns last) a x b y

-- the same, of a pilot that was made ready with this basis; without one there is no flight
abbrev pub Flies : ServerState → List Key → Option Basis → ℕ → FlightEnd → HelmParts → View → HelmParts → View → Type 0
Flies opening keys None who end a x b y = ⊥
Flies opening keys (Some basis) who end a x b y = IsFlight opening keys basis who end a x b y

-- a pilot is ready for a session: it has what its records have, and room for its keys
pub record IsReady (p : PilotParts) : Type 0 where
  pub based : IsSome p.basis
  pub room : HasRoom p.helm.steering

-- a pilot that was made ready for a session that begins with this record
abbrev pub readied_for : Record → PilotParts → PilotParts
readied_for latest p = record {
  helm = record p.helm { steering = readied latest (fitted p.helm.steering) };
  basis = Some (record { rules = latest.rules; rate = latest.rate });
}
