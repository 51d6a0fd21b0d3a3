-- A session that a number draws: our own words.
use Rattle.std.specs.Prelude.{◌≡◌, ◌≢◌, ◌*◌, ◌^◌, ◌+◌, ℕ, false, Option, None, List, [], ◌∷◌, map, replicate}
use Rattle.std.specs.List.{range_with_len}
use Rattle.edge_traits.specs.Memory.{IsNewClock, readings_given, readings_of, readings_told}
use Rattle.edge_traits.specs.declared.memory_clock.MemoryClock.{MemoryClock}
use Rattle.pilot.specs.Views.{PilotParts}
use Rattle.recency.specs.declared.limits.Limits.{Limits}
use Rattle.recency.specs.declared.limits.TheConstants.{PLAIN_MAXAGE, PLAIN_MAXDEPTH, PLAIN_MINAGE, PLAIN_MINDEPTH}
use Rattle.responders.specs.Outcomes.{IsSessionOf}
use Rattle.responders.specs.declared.session.Outcome.TheVariants.{AllClosed, NoMemory}
use Rattle.responders.specs.declared.session.Session.{Session}
use Rattle.server_core.specs.States.{ServerState}
use Rattle.shared_book.specs.declared.common.Common.{Common}
use Rattle.sys_vars.specs.Opening.{IsOpening}
use Rattle.worker.specs.Workers.{WorkerView}
use Rattle.drawn_session.specs.Counts.{NoneDropped, acts_of, counts_of, drawn_counts}
use Rattle.drawn_session.specs.Datagrams.{datagrams_of}
use Rattle.drawn_session.specs.Ports.{PortParts, address_of, faults_of, is_closed_of, most_of, new_port, quiets_of, trace_of}
use Rattle.drawn_session.specs.declared.opening.TheConstants.{ORIGIN, PILOT, READINGS, TICK}
use Rattle.drawn_session.specs.declared.run.SessionEnd.{SessionEnd}

-- the limits of a client list where nothing else is said
pub record ArePlainLimits (limits : Limits) : Type 0 where
  pub mindepth : limits.mindepth ≡ PLAIN_MINDEPTH
  pub maxdepth : limits.maxdepth ≡ PLAIN_MAXDEPTH
  pub minage : limits.minage ≡ PLAIN_MINAGE * 2 ^ 32
  pub maxage : limits.maxage ≡ PLAIN_MAXAGE * 2 ^ 32

-- the server that a session begins with: an opening record is published, and nobody has asked yet
pub record IsOpeningState (s : ServerState) : Type 0 where
  pub published : IsOpening s.origin s.published
  pub rows : s.rows ≡ []
  pub stamp : s.stamp ≡ 0
  pub limits : ArePlainLimits s.limits
  pub origin : s.origin.0 ≡ ORIGIN

-- what the parts of the server know: no keys, a secret of zero octets, and when its clocks begin
pub record IsCommon (common : Common) : Type 0 where
  pub keys : common.keys ≡ []
  pub salt : common.salt.0 ≡ replicate 16 0
  pub origin : common.origin.0 ≡ ORIGIN

-- the reading of a worker's clock of this number, counted from 0: a 64th of a second after the one before
abbrev pub reading_of : ℕ → ℕ
reading_of number = (number + 1) * TICK

-- the readings of a worker's clock, as many as its datagrams can ask for
unfoldable pub readings : List ℕ
readings = map reading_of (range_with_len 0 READINGS)

-- the readings that a clock tells
abbrev pub clock_told : MemoryClock → Option (List ℕ)
clock_told clock = readings_told (readings_of clock) (readings_given clock)

-- the worker of this number, which has done nothing yet, at a new port
pub record IsNewWorker (number who : ℕ) (worker : WorkerView PortParts MemoryClock) : Type 0 where
  pub numbered : worker.who ≡ who
  pub port : worker.port ≡ new_port number who
  pub clock : IsNewClock worker.clock
  pub readings_are : readings_of worker.clock ≡ readings
  pub empty : worker.carry ≡ None
  pub idle : worker.acts ≡ []

-- two workers that have done nothing yet
pub record AreNewWorkers (number : ℕ) (workers : List (WorkerView PortParts MemoryClock)) : Type 0 where
  pub first : WorkerView PortParts MemoryClock
  pub second : WorkerView PortParts MemoryClock
  pub are : workers ≡ first ∷ second ∷ []
  pub first_new : IsNewWorker number 0 first
  pub second_new : IsNewWorker number 1 second

-- a pilot that has done nothing yet, without servers, at a new port
pub record IsNewPilot (number : ℕ) (pilot : PilotParts) : Type 0 where
  pub trace : pilot.helm.outside.trace ≡ trace_of (new_port number PILOT)
  pub faults : pilot.helm.outside.faults ≡ 0
  pub quiets : pilot.helm.outside.quiets ≡ 0
  pub address : pilot.helm.outside.address ≡ address_of (new_port number PILOT)
  pub peers : pilot.helm.steering.peers ≡ []
  pub epoch : pilot.helm.steering.epoch ≡ 0
  pub due : pilot.helm.steering.due ≡ []
  pub unbegun : pilot.helm.steering.begun ≡ false
  pub left : pilot.helm.left ≡ 0
  pub unready : pilot.basis ≡ None

-- the session that a number draws, before it begins: its server has just begun, and nothing has happened yet
pub record IsFirst (number : ℕ) (session : Session PortParts MemoryClock) : Type 0 where
  pub common : IsCommon session.common
  pub state : IsOpeningState session.book.state
  pub same_origin : session.book.state.origin ≡ session.common.origin
  pub journal : session.book.journal ≡ []
  pub workers : AreNewWorkers number session.workers
  pub pilot : IsNewPilot number session.pilot

-- The session that a number draws was served and ended so. Where it ended since nothing will come any more, and memory was
-- wanting for no datagram, as much was done in it as the draws say, whatever its threads did.
pub record IsSessionEnd (number : ℕ) (end : SessionEnd) : Type 0 where
  pub first : Session PortParts MemoryClock
  pub begins : IsFirst number first
  pub served : IsSessionOf trace_of faults_of quiets_of address_of most_of is_closed_of clock_told first end.outcome end.session
  pub ran : end.outcome ≢ NoMemory
  pub counts : end.counts ≡ counts_of end.session
  pub drawn : end.outcome ≡ AllClosed → NoneDropped (acts_of end.session.workers) → end.counts ≡ drawn_counts (datagrams_of number)
