-- The jobs of a session's threads: our own words.
use Rattle.std.specs.Prelude.{◌≡◌, ◌≤◌, ℕ, Bool, Some, IsTrue, List, [], ◌∷◌, map}
use Rattle.atomic_table.specs.Seated.{TableId}
use Rattle.associations.specs.declared.asking.TheConstants.{MAX_REQUEST_LEN}
use Rattle.server_core.specs.States.{ServerState}
use Rattle.shared_book.specs.declared.common.Common.{Common}
use Rattle.shared_book.specs.Entries.{IsSameSeat, View}
use Rattle.worker.specs.declared.working.WorkEnd.{WorkEnd}
use Rattle.worker.specs.declared.working.WorkEnd.TheVariants.{Closed, Ended}
use Rattle.worker.specs.Doings.{Did, Doing}
use Rattle.worker.specs.Turns.{MayLackAtEnd}
use Rattle.worker.specs.Workers.{WorkerView}
use Rattle.pilot.specs.Flights.{IsFlight, IsReady}
use Rattle.pilot.specs.Views.{PilotParts}
use Rattle.pilot.specs.declared.flight.FlightEnd.{FlightEnd}
use Rattle.pilot.specs.declared.flight.FlightEnd.TheVariants.{Closed as PortClosed, Ended as Stopped}
use Rattle.pilot.specs.declared.steering.Basis.{Basis}
use Rattle.responders.specs.Flown.{StandsAfter}
use Rattle.responders.specs.Outcomes.{IsDone}
use Rattle.responders.specs.Parts.{StandsAtEnd}
use Rattle.responders.specs.Workers.{reopened}
use Rattle.responders.specs.declared.jobs.Flight.{Flight}
use Rattle.responders.specs.declared.jobs.Job.{Job}

-- a job is ready: its seat is one of this turnstile and has seen the opening, and its port gives what a worker may give
pub record IsReadyJob {P C : Type 0} (most : P → ℕ) (door : TableId) (opening : ServerState) (job : Job P C) : Type 0 where
  pub own : job.seat.door ≡ door
  pub opened : job.seat.opening ≡ Some opening
  pub gives : 1024 ≤ most job.worker.port

-- where a worker's work ended since nothing will come any more, it is done
abbrev pub IsDoneAtEnd : {P C : Type 0} → (P → Bool) → WorkerView P C → WorkEnd → Type 0
IsDoneAtEnd is_closed worker Closed = IsDone is_closed worker
IsDoneAtEnd is_closed worker (Ended stop) = Unit {0}

-- a job was done, up to its end
pub record IsWorked {P C : Type 0} (doing : WorkerView P C → View → Doing) (is_closed : P → Bool) (common : Common) (opening : ServerState) (old new : Job P C) : Type 0 where
  pub end : WorkEnd
  pub lacking : ℕ
  pub end_is : new.end ≡ Some end
  pub did : Did common opening new.seat.front lacking (doing old.worker old.seat) (doing new.worker new.seat)
  pub may_lack : MayLackAtEnd end lacking
  pub stands : StandsAtEnd new.seat.front end
  pub done : IsDoneAtEnd is_closed new.worker end
  pub who_kept : new.worker.who ≡ old.worker.who
  pub seat_kept : IsSameSeat old.seat new.seat

-- each of these jobs became that one
abbrev pub EachBecame : {A : Type 0} → (A → A → Type 0) → List A → List A → Type 0
EachBecame became [] [] = Unit {0}
EachBecame became (old ∷ olds) (new ∷ news) = became old new × EachBecame became olds news
EachBecame became _ _ = ⊥

-- a seat is one of that seat's turnstile, has seen what it has, and has made no call
pub record IsSplitOf (first seat : View) : Type 0 where
  pub door_is : seat.door ≡ first.door
  pub opening_is : seat.opening ≡ first.opening
  pub front_is : seat.front ≡ first.front
  pub uncalled : seat.own ≡ []

-- each worker has a job, at a seat of its own, and begins without acts
abbrev pub AreSeated : {P C : Type 0} → View → List (WorkerView P C) → List (Job P C) → Type 0
AreSeated first [] [] = Unit {0}
AreSeated first (worker ∷ workers) (job ∷ jobs) = (job.worker ≡ reopened worker) × IsSplitOf first job.seat × AreSeated first workers jobs
AreSeated first _ _ = ⊥

-- a flight is ready: its seat is one of this turnstile and has seen the opening, its port gives what a pilot may give, and
-- the pilot was made ready
pub record IsReadyFlight {P C : Type 0} (door : TableId) (opening : ServerState) (flight : Flight P C) : Type 0 where
  pub own : flight.seat.door ≡ door
  pub opened : flight.seat.opening ≡ Some opening
  pub gives : MAX_REQUEST_LEN ≤ flight.pilot.helm.outside.most
  pub ready : IsReady flight.pilot

-- where a flight ended since its port is closed, it is
abbrev pub IsClosedAfter : PilotParts → FlightEnd → Type 0
IsClosedAfter pilot PortClosed = IsTrue pilot.helm.outside.closed
IsClosedAfter pilot (Stopped stop) = Unit {0}

-- a flight was made, up to its end
pub record HasFlownHere {P C : Type 0} (common : Common) (opening : ServerState) (old new : Flight P C) : Type 0 where
  pub end : FlightEnd
  pub end_is : new.end ≡ Some end
  pub basis : Basis
  pub basis_is : old.pilot.basis ≡ Some basis
  pub basis_kept : new.pilot.basis ≡ Some basis
  pub flight : IsFlight opening common.keys basis old.who end old.pilot.helm old.seat new.pilot.helm new.seat
  pub stands : StandsAfter new.seat.front end
  pub closed : IsClosedAfter new.pilot end
  pub who_kept : new.who ≡ old.who
  pub seat_kept : IsSameSeat old.seat new.seat

-- the seats of these jobs
abbrev pub seats_of : {P C : Type 0} → List (Job P C) → List View
seats_of jobs = map (λ job. job.seat) jobs

-- the workers of these jobs
abbrev pub workers_of : {P C : Type 0} → List (Job P C) → List (WorkerView P C)
workers_of jobs = map (λ job. job.worker) jobs
