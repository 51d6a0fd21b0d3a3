-- The calls of a pilot at the turnstile, and what they add to the one history: our own words.
use Rattle.std.specs.Prelude.{◌≡◌, ◌≤◌, ◌+◌, ℕ, Option, None, Some, Result, Ok, Err, List, [], ◌∷◌, ◌++◌, length, map}
use mathlib.Core.List.{IsPrefix}
use Rattle.server_core.specs.declared.op.Op.{Op}
use Rattle.server_core.specs.declared.op.Op.TheVariants.{Publish, Arrive, Look, Read, Sweep, Stop as Stops}
use Rattle.server_core.specs.declared.op.Stop.{Stop}
use Rattle.server_core.specs.declared.op.Why.TheVariants.{ClockEnd as AtClockEnd, PortFault}
use Rattle.server_core.specs.declared.step.Reply.{Reply}
use Rattle.server_core.specs.declared.step.StepFault.{StepFault}
use Rattle.server_core.specs.declared.step.StepFault.TheVariants.{Ended, Full, ClockEnd, NoMemory}
use Rattle.server_core.specs.Histories.{state_after_all}
use Rattle.server_core.specs.States.{ServerState, refusal_of, stop_in}
use Rattle.shared_book.specs.Entries.{IsEntry, View}
use Rattle.shared_book.specs.declared.stopping.Unentered.{Unentered}
use Rattle.shared_book.specs.declared.stopping.Unentered.TheVariants.{Ended as Met, NoMemory as NoRoom}

-- an operation of a pilot: a publication, a sweep or a stop
abbrev pub IsPilots : Op → Type 0
IsPilots (Publish boxed) = Unit {0}
IsPilots (Sweep moment) = Unit {0}
IsPilots (Stops stop) = Unit {0}
IsPilots (Arrive ask moment) = ⊥
IsPilots (Look asked context) = ⊥
IsPilots (Read ask moment) = ⊥

-- an operation at its place
pub record Entry : Type 0 where
  pub place : ℕ
  pub op : Op

-- why a stop stands, for a pilot that ends by it: this operation was refused, or its port failed; and the place of the stop,
-- where it is the pilot's own
pub record Cause : Type 0 where
  pub asked : Option Op
  pub made : Option ℕ
  pub stop : Stop

-- the places of entries, in their order
abbrev pub places_of : List Entry → List ℕ
places_of entries = map (λ (entry : Entry). entry.place) entries

-- the entry of a stop, where it is the pilot's own
abbrev pub stop_entries : Option ℕ → Stop → List Entry
stop_entries None stop = []
stop_entries (Some place) stop = record { place = place; op = Stops stop } ∷ []

-- places climb, from one number on and up to another
abbrev pub Climb : ℕ → List ℕ → ℕ → Type 0
Climb least [] most = least ≤ most
Climb least (place ∷ places) most = (least ≤ place) × Climb (place + 1) places most

-- an operation of a pilot stands in the history at its place, and was not refused there
pub record Stands (opening : ServerState) (history : List Op) (entry : Entry) : Type 0 where
  pub pilots : IsPilots entry.op
  pub reply : Reply
  pub is_entry : IsEntry opening history entry.place entry.op reply

-- each of these stands
abbrev pub AllStand : ServerState → List Op → List Entry → Type 0
AllStand opening history [] = Unit {0}
AllStand opening history (entry ∷ entries) = Stands opening history entry × AllStand opening history entries

-- the stop that a caller with this number makes at a limit
abbrev pub IsStopAt : ℕ → StepFault → Stop → Type 0
IsStopAt who (Full why) stop = stop ≡ record { who = who; why = why }
IsStopAt who ClockEnd stop = stop ≡ record { who = who; why = AtClockEnd }
IsStopAt who (Ended other) stop = ⊥
IsStopAt who NoMemory stop = ⊥

-- an operation met a limit of the server, in a front of the history that was seen before the stop was made at its place
pub record MeetsLimit (opening : ServerState) (who : ℕ) (history : List Op) (op : Op) (place : ℕ) (stop : Stop) : Type 0 where
  pub seen : List Op
  pub front : IsPrefix seen history
  pub earlier : length seen ≤ place
  pub fault : StepFault
  pub refused : refusal_of seen (state_after_all opening seen).stamp op ≡ Some fault
  pub named : IsStopAt who fault stop

-- the reason of a pilot's own stop: its operation met a limit, or its port failed; one that another made needs none
abbrev pub HasReason : ServerState → ℕ → List Op → Option Op → Option ℕ → Stop → Type 0
HasReason opening who history asked None stop = Unit {0}
HasReason opening who history (Some op) (Some place) stop = MeetsLimit opening who history op place stop
HasReason opening who history None (Some place) stop = stop ≡ record { who = who; why = PortFault }

-- a stop stands in the history, and a pilot's own has its reason
pub record IsCaused (opening : ServerState) (who : ℕ) (history : List Op) (cause : Cause) : Type 0 where
  pub stands : stop_in history ≡ Some cause.stop
  pub reason : HasReason opening who history cause.asked cause.made cause.stop

-- each of these is caused
abbrev pub AllCaused : ServerState → ℕ → List Op → List Cause → Type 0
AllCaused opening who history [] = Unit {0}
AllCaused opening who history (cause ∷ causes) = IsCaused opening who history cause × AllCaused opening who history causes

-- A seat made calls: these entries are its own, in this order, and no others. What it has seen has them all, and begins with
-- all that it had seen.
pub record Called (opening : ServerState) (who : ℕ) (entries : List Entry) (causes : List Cause) (old new : View) : Type 0 where
  pub longer : IsPrefix old.front new.front
  pub own : new.own ≡ old.own ++ places_of entries
  pub climb : Climb (length old.front) (places_of entries) (length new.front)
  pub stand : AllStand opening new.front entries
  pub caused : AllCaused opening who new.front causes

-- an operation of a pilot stands at a place, or was refused, and this stop stands
abbrev pub Calls : ServerState → ℕ → Op → Option Stop → View → View → Type 0
Calls opening who op None old new =
    (place : ℕ) × Called opening who (record { place = place; op = op } ∷ []) [] old new
Calls opening who op (Some stop) old new =
    (made : Option ℕ) × Called opening who (stop_entries made stop) (record { asked = Some op; made = made; stop = stop } ∷ []) old new

-- the stop that was met by a call that was answered so
abbrev pub stop_met : {Entered : Type 0} → Result Entered Unentered → Option Stop
stop_met (Ok entered) = None
stop_met (Err (Met stop)) = Some stop
stop_met (Err NoRoom) = None
