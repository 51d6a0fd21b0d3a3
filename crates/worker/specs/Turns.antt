-- How a turn of a worker, and its work, end: our own words.
use Rattle.std.specs.Prelude.{◌≡◌, ◌⊎◌, ◌<◌, ◌≤◌, ℕ, Bool, true, false, List, [], ◌∷◌, ◌++◌}
use Rattle.worker.specs.declared.act.Act.{Act}
use Rattle.worker.specs.declared.act.ActKind.{ActKind}
use Rattle.worker.specs.declared.act.ActKind.TheVariants.{Time, Control, Read, Silent as SilentKind, Dropped as DroppedKind}
use Rattle.worker.specs.declared.turn.Turn.{Turn}
use Rattle.worker.specs.declared.turn.Turn.TheVariants.{Answered, Silent, SendFailed, Dropped, Swept, Closed, Ended}
use Rattle.worker.specs.declared.working.WorkEnd.{WorkEnd}
use Rattle.worker.specs.declared.working.WorkEnd.TheVariants.{Closed as WorkClosed, Ended as WorkEnded}

-- an act for which memory was wanting
abbrev pub is_dropped : ActKind → Bool
is_dropped (DroppedKind place) = true
is_dropped (Time place xmt verdict) = false
is_dropped (Control mark ignored) = false
is_dropped (Read place reply) = false
is_dropped (SilentKind why) = false

-- what a turn that so ended says of its act: its answer was given whole, or had no datagrams, or a give failed, or memory
-- was wanting
abbrev pub IsActBy : Turn → Act → Type 0
IsActBy Answered act = (is_dropped act.kind ≡ false) × (act.failed ≡ false) × (0 < act.given)
IsActBy Silent act = (is_dropped act.kind ≡ false) × (act.failed ≡ false) × (act.given ≡ 0)
IsActBy SendFailed act = act.failed ≡ true
IsActBy Dropped act = is_dropped act.kind ≡ true
IsActBy _ act = ⊥

-- a turn that so ended has one act more
abbrev pub IsOneMore : Turn → List Act → List Act → Type 0
IsOneMore turn old new = (act : Act) × (new ≡ old ++ act ∷ []) × IsActBy turn act

-- the acts after a turn that so ended
abbrev pub ActsBy : Turn → List Act → List Act → Type 0
ActsBy Answered old new = IsOneMore Answered old new
ActsBy Silent old new = IsOneMore Silent old new
ActsBy SendFailed old new = IsOneMore SendFailed old new
ActsBy Dropped old new = (new ≡ old) ⊎ IsOneMore Dropped old new
ActsBy Swept old new = new ≡ old
ActsBy Closed old new = new ≡ old
ActsBy (Ended stop) old new = new ≡ old

-- so many silences lack their sweep after a turn that so ended: one at most, where its sweep was refused
abbrev pub MayLackSweeps : Turn → ℕ → Type 0
MayLackSweeps (Ended stop) lacking = lacking ≤ 1
MayLackSweeps _ lacking = lacking ≡ 0

-- the same after the work of a session
abbrev pub MayLackAtEnd : WorkEnd → ℕ → Type 0
MayLackAtEnd (WorkEnded stop) lacking = lacking ≤ 1
MayLackAtEnd WorkClosed lacking = lacking ≡ 0
