-- How a session ends: our own words.
use Rattle.std.specs.Prelude.{◌≡◌, ◌≢◌, ℕ, Bool, IsTrue, Option, None, Some, List}
use Rattle.std.specs.List.{AllByRecursion}
use Rattle.net_addr.specs.declared.addr.Addr.{Addr}
use Rattle.edge_traits.specs.declared.port.Event.{Event}
use Rattle.server_core.specs.declared.op.Stop.{Stop}
use Rattle.server_core.specs.Histories.{state_after_all}
use Rattle.server_core.specs.States.{stop_in}
use Rattle.worker.specs.Doings.{doing_of}
use Rattle.worker.specs.Workers.{WorkerView}
use Rattle.pilot.specs.Flights.{readied_for}
use Rattle.responders.specs.Sessions.{IsServed}
use Rattle.responders.specs.declared.session.Outcome.{Outcome}
use Rattle.responders.specs.declared.session.Outcome.TheVariants.{AllClosed, Stopped, NoMemory}
use Rattle.responders.specs.declared.session.Session.{Session}

-- the outcome of a session in whose history this stop stands, or none
abbrev pub outcome_of : Option Stop → Outcome
outcome_of None = AllClosed
outcome_of (Some stop) = Stopped stop

-- nothing will come any more at a worker's port, and it carries nothing
pub record IsDone {P C : Type 0} (is_closed : P → Bool) (worker : WorkerView P C) : Type 0 where
  pub closed : IsTrue (is_closed worker.port)
  pub empty : worker.carry ≡ None

-- A session that began so was served, ended so, and left all so.
pub record IsSessionOf {P C : Type 0} (trace : P → Option (List Event)) (faults quiets : P → ℕ) (address : P → Addr) (most : P → ℕ) (is_closed : P → Bool) (readings : C → Option (List ℕ)) (old : Session P C) (outcome : Outcome) (new : Session P C) : Type 0 where
  pub served : outcome ≢ NoMemory
      → IsServed (doing_of trace faults quiets address most readings) old.common old.book.state new.book.journal old.workers new.workers (readied_for old.book.state.published old.pilot) new.pilot
  pub state : new.book.state ≡ state_after_all old.book.state new.book.journal
  pub outcome_is : outcome ≢ NoMemory → outcome ≡ outcome_of (stop_in new.book.journal)
  pub closed : outcome ≡ AllClosed → AllByRecursion (IsDone is_closed) new.workers
  pub pilot_closed : outcome ≡ AllClosed → IsTrue new.pilot.helm.outside.closed
  pub common_kept : new.common ≡ old.common
  pub no_memory : outcome ≡ NoMemory → new ≡ old
