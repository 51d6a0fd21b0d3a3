-- What a worker enters beside its answers: our own words.
use Rattle.std.specs.Prelude.{◌≡◌, ◌≤◌, ℕ, Bool, true, false, Some, List, [], ◌∷◌, map}
use Rattle.std.specs.List.{AllByRecursion, count_by, flat_map}
use mathlib.Core.List.{IsPrefix}
use Rattle.server_core.specs.declared.op.Op.{Op}
use Rattle.server_core.specs.declared.op.Op.TheVariants.{Sweep as SweepOp, Stop as StopOp}
use Rattle.server_core.specs.declared.op.Stop.{Stop}
use Rattle.server_core.specs.declared.op.Why.{Why}
use Rattle.server_core.specs.declared.op.Why.TheVariants.{PortFault, Entries, Publications, Acts, ClockEnd}
use Rattle.server_core.specs.declared.step.Reply.{Reply}
use Rattle.server_core.specs.declared.step.Reply.TheVariants.{Stopped}
use Rattle.server_core.specs.declared.step.StepFault.{StepFault}
use Rattle.server_core.specs.declared.step.StepFault.TheVariants.{Full, ClockEnd as AtClockEnd}
use Rattle.server_core.specs.Histories.{state_after_all}
use Rattle.server_core.specs.States.{ServerState, refusal_of}
use Rattle.shared_book.specs.Entries.{IsEntry}
use Rattle.worker.specs.declared.act.TheConstants.{MAX_ACTS}

-- what a worker enters beside its answers, at this place: a sweep as of this moment, or a stop
pub data Other : Type 0 where
  sweeps : ℕ → ℕ → Other
  stops : ℕ → Stop → Other

-- a limit was met: an operation was refused so after a front of these
abbrev pub IsMet : ServerState → List Op → StepFault → Type 0
IsMet opening before fault =
    (front : List Op) × (op : Op) × IsPrefix front before
    × (refusal_of front (state_after_all opening front).stamp op ≡ Some fault)

-- the cause of a stop of a worker, where these stand before it and the worker has so many acts; that its port failed is
-- seen by the port's count
abbrev pub IsCause : ServerState → ℕ → List Op → Why → Type 0
IsCause opening acts before PortFault = Unit {0}
IsCause opening acts before Entries = IsMet opening before (Full Entries)
IsCause opening acts before Publications = IsMet opening before (Full Publications)
IsCause opening acts before Acts = MAX_ACTS ≤ acts
IsCause opening acts before ClockEnd = IsMet opening before AtClockEnd

-- a stop of the worker of this number stands at this place, and has its cause
pub record IsOwnStop (opening : ServerState) (who acts : ℕ) (history : List Op) (place : ℕ) (stop : Stop) : Type 0 where
  pub entry : IsEntry opening history place (StopOp stop) Stopped
  pub named : stop.who ≡ who
  pub cause : IsCause opening acts entry.before stop.why

-- what the worker of this number, which has so many acts, enters beside its answers
abbrev pub IsOther : ServerState → ℕ → ℕ → List Op → Other → Type 0
IsOther opening who acts history (sweeps place moment) =
    (reply : Reply) × IsEntry opening history place (SweepOp moment) reply
IsOther opening who acts history (stops place stop) = IsOwnStop opening who acts history place stop

-- the same of several
abbrev pub AreOthers : ServerState → ℕ → ℕ → List Op → List Other → Type 0
AreOthers opening who acts history others = AllByRecursion (IsOther opening who acts history) others

-- where it stands
abbrev pub place_of : Other → ℕ
place_of (sweeps place moment) = place
place_of (stops place stop) = place

-- where they stand, in their order
abbrev pub other_places : List Other → List ℕ
other_places others = map place_of others

-- the moment of a sweep
abbrev pub moment_in : Other → List ℕ
moment_in (sweeps place moment) = moment ∷ []
moment_in (stops place stop) = []

-- the moments of the sweeps, in their order
abbrev pub sweep_moments : List Other → List ℕ
sweep_moments others = flat_map moment_in others

-- a sweep
abbrev pub is_sweep : Other → Bool
is_sweep (sweeps place moment) = true
is_sweep (stops place stop) = false

-- how many of them are sweeps
abbrev pub sweeps_in : List Other → ℕ
sweeps_in others = count_by is_sweep others

-- a fault of the port
abbrev pub is_port_fault : Why → Bool
is_port_fault PortFault = true
is_port_fault Entries = false
is_port_fault Publications = false
is_port_fault Acts = false
is_port_fault ClockEnd = false

-- a stop for a fault of the port
abbrev pub is_port_stop : Other → Bool
is_port_stop (sweeps place moment) = false
is_port_stop (stops place stop) = is_port_fault stop.why

-- how many of them are stops for a fault of the port
abbrev pub port_stops_in : List Other → ℕ
port_stops_in others = count_by is_port_stop others
