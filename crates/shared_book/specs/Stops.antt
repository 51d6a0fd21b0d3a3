-- How a caller of a shared server ends: our own rule.
use Rattle.std.specs.Prelude.{◌≡◌, ◌⊎◌, ℕ}
use Rattle.server_core.specs.declared.op.Op.{Op}
use Rattle.server_core.specs.declared.op.Op.TheVariants.{Stop as Stops}
use Rattle.server_core.specs.declared.op.Stop.{Stop}
use Rattle.server_core.specs.declared.op.Why.TheVariants.{ClockEnd as AtClockEnd}
use Rattle.server_core.specs.declared.step.Reply.TheVariants.{Stopped}
use Rattle.server_core.specs.declared.step.StepFault.{StepFault}
use Rattle.server_core.specs.declared.step.StepFault.TheVariants.{Ended, Full, ClockEnd, NoMemory}
use Rattle.server_core.specs.States.{ServerState}
use Rattle.shared_book.specs.Entries.{IsEntered, IsUnentered, View}

-- a caller stops the server so: its stop is entered and stands, or the server was stopped before, and that stop stands
abbrev pub IsStopped : ServerState → View → Stop → Stop → View → Type 0
IsStopped opening old asked stood new =
    ((place : ℕ) × IsEntered opening old (Stops asked) place Stopped new × (stood ≡ asked))
    ⊎ IsUnentered opening old (Stops asked) (Ended stood) new

-- what a caller with this number does after its operation was refused, and the stop that then stands: where the server was
-- stopped, nothing; where a limit is met, it stops the server for that reason
abbrev pub EndsBy : ServerState → ℕ → StepFault → View → Stop → View → Type 0
EndsBy opening who (Ended stop) old stood new = (stood ≡ stop) × (new ≡ old)
EndsBy opening who (Full why) old stood new = IsStopped opening old (record { who = who; why = why }) stood new
EndsBy opening who ClockEnd old stood new = IsStopped opening old (record { who = who; why = AtClockEnd }) stood new
EndsBy opening who NoMemory old stood new = ⊥

-- an operation of this caller was refused, and not for want of memory: this stop then stands
pub record IsEnded (opening : ServerState) (who : ℕ) (old : View) (op : Op) (stood : Stop) (new : View) : Type 0 where
  pub fault : StepFault
  pub between : View
  pub refused : IsUnentered opening old op fault between
  pub ended : EndsBy opening who fault between stood new
