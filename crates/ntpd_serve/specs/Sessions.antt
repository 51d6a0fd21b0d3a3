-- What `ntpd serve` prints of a session, and its exit status: our own rule.
use Rattle.std.specs.Prelude.{◌≡◌, ℕ, Option, None, Some, List, [], ◌∷◌, ◌++◌, codes, decimal, length}
use Rattle.server_core.specs.declared.op.Stop.{Stop}
use Rattle.server_core.specs.declared.op.Why.{Why}
use Rattle.server_core.specs.declared.op.Why.TheVariants.{PortFault, Entries, Publications, Acts, ClockEnd}
use Rattle.server_core.specs.States.{stop_in}
use Rattle.responders.specs.declared.session.Outcome.{Outcome}
use Rattle.responders.specs.declared.session.Outcome.TheVariants.{AllClosed, Stopped, NoMemory}
use Rattle.responders.specs.declared.session.Session.{Session}
use Rattle.ntpd_serve.specs.Ending.{failure_status, line_of}
use Rattle.ntpd_serve.specs.declared.ending.Ending.TheVariants.{Failed}
use Rattle.ntpd_serve.specs.declared.ending.Failure.{Failure}
use Rattle.ntpd_serve.specs.declared.ending.Failure.TheVariants as failure
use Rattle.ntpd_serve.specs.declared.outcome.SessionFacts.{SessionFacts}

-- why no more is served after a stop for this reason, where that is a failure: the limits of one session are none
abbrev pub failure_by : Why → Option Failure
failure_by PortFault = Some failure.Port
failure_by Entries = None
failure_by Publications = None
failure_by Acts = None
failure_by ClockEnd = Some failure.Clock

-- why no more is served after this outcome, where that is a failure
abbrev pub failure_of : Outcome → Option Failure
failure_of AllClosed = None
failure_of (Stopped stop) = failure_by stop.why
failure_of NoMemory = Some failure.NoMemory

-- the exit status of a failure, or of none
abbrev pub status_by : Option Failure → ℕ
status_by None = 0
status_by (Some why) = failure_status why

-- the exit status after this outcome
abbrev pub outcome_status : Outcome → ℕ
outcome_status outcome = status_by (failure_of outcome)

-- the line of a failure, or of none
abbrev pub failure_line : Option Failure → List ℕ
failure_line None = []
failure_line (Some why) = line_of (Failed why)

-- the line of a session
abbrev pub session_line : SessionFacts → List ℕ
session_line facts =
    codes "session entries " ++ decimal facts.entries ++ codes " clients " ++ decimal facts.clients
    ++ codes " epoch " ++ decimal facts.epoch ++ codes " left " ++ decimal facts.left ++ 10 ∷ []

-- what is printed of a session that ended so: its line, and that of a failure
unfoldable pub session_lines : SessionFacts → Outcome → List ℕ
session_lines facts outcome = session_line facts ++ failure_line (failure_of outcome)

-- what the line of a session says
abbrev pub facts_of : {P C : Type 0} → Session P C → SessionFacts
facts_of session = record {
  entries = length session.book.journal;
  clients = length session.book.state.rows;
  epoch = session.book.state.published.epoch;
  left = session.pilot.helm.left;
}

-- a session was stopped for this reason
abbrev pub IsStoppedFor : {P C : Type 0} → Why → Session P C → Type 0
IsStoppedFor why session = (stop : Stop) × (stop_in session.book.journal ≡ Some stop) × (stop.why ≡ why)
