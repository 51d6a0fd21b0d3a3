-- What can be read off a session: our own words.
use Rattle.std.specs.Prelude.{◌⊎◌, ℕ, Bool, true, false, if◌then◌else◌, Option, Some, List, [], ◌∷◌, length}
use Rattle.std.specs.List.{flat_map}
use Rattle.server_core.specs.declared.op.Op.{Op}
use Rattle.server_core.specs.declared.op.Op.TheVariants.{Publish, Arrive, Look, Read, Sweep, Stop}
use Rattle.server_core.specs.declared.op.Stop.{Stop as Stopping}
use Rattle.server_core.specs.declared.step.Reply.{Reply}
use Rattle.server_core.specs.States.{ServerState}
use Rattle.shared_book.specs.declared.common.Common.{Common}
use Rattle.shared_book.specs.Entries.{IsEntry}
use Rattle.worker.specs.Acts.{places_of}
use Rattle.worker.specs.Others.{IsOwnStop}
use Rattle.pilot.specs.Calls.{HasReason}
use Rattle.responders.specs.Flown.{Flown}
use Rattle.responders.specs.Parts.{Part}

-- an operation by which a datagram is answered: a request for the time, a control request or a read of the client list
abbrev pub is_asked : Op → Bool
is_asked (Arrive ask moment) = true
is_asked (Look asked context) = true
is_asked (Read ask moment) = true
is_asked (Publish boxed) = false
is_asked (Sweep moment) = false
is_asked (Stop stop) = false

-- how often the place of an operation is named by acts: once where it answers a datagram, and else never
abbrev pub once_where_asked : Op → ℕ
once_where_asked op = if is_asked op then 1 else 0

-- the places that the acts of all parts name
abbrev pub act_places_of : List Part → List ℕ
act_places_of parts = flat_map (λ (part : Part). places_of part.after.acts) parts

-- a session: what its threads have in common, its opening, its history, and what each thread did
pub record Session : Type 0 where
  pub common : Common
  pub opening : ServerState
  pub history : List Op
  pub parts : List Part
  pub flown : Flown

-- a stop is the worker's own of this part, or of one of these, at this place of the history, and has its cause
abbrev pub IsWorkersStop : ServerState → List Op → ℕ → Stopping → List Part → Type 0
IsWorkersStop opening history place stop [] = ⊥
IsWorkersStop opening history place stop (part ∷ parts) =
    IsOwnStop opening part.before.who (length part.after.acts) history place stop ⊎ IsWorkersStop opening history place stop parts

-- a stop is the pilot's own, which has this number, at this place of the history, and has its reason: an operation of the
-- pilot met a limit, or its port failed
pub record IsPilotsStop (opening : ServerState) (who : ℕ) (history : List Op) (place : ℕ) (stop : Stopping) : Type 0 where
  pub reply : Reply
  pub entry : IsEntry opening history place (Stop stop) reply
  pub asked : Option Op
  pub reason : HasReason opening who history asked (Some place) stop

-- a stop was made at a place, by one of the workers or by the pilot, and has its cause
abbrev pub IsMade : Session → Stopping → Type 0
IsMade session stop =
    (place : ℕ) × (IsWorkersStop session.opening session.history place stop session.parts
    ⊎ IsPilotsStop session.opening (length session.parts) session.history place stop)
