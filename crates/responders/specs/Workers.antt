-- The workers of a session: our own words.
use Rattle.std.specs.Prelude.{◌≡◌, ◌≤◌, ◌+◌, ℕ, List, [], ◌∷◌, length}
use Rattle.worker.specs.Workers.{WorkerView}
use Rattle.responders.specs.declared.workers.TheConstants.{MAX_WORKERS}

-- workers are numbered in their order, from this number on
abbrev pub AreNumbered : {P C : Type 0} → ℕ → List (WorkerView P C) → Type 0
AreNumbered first [] = Unit {0}
AreNumbered first (worker ∷ workers) = (worker.who ≡ first) × AreNumbered (first + 1) workers

-- the workers of a session: one at least and eight at most, numbered from 0 in their order
pub record AreWorkers {P C : Type 0} (workers : List (WorkerView P C)) : Type 0 where
  pub some : 1 ≤ length workers
  pub few : length workers ≤ MAX_WORKERS
  pub numbered : AreNumbered 0 workers

-- a worker that begins a session: its acts are forgotten
abbrev pub reopened : {P C : Type 0} → WorkerView P C → WorkerView P C
reopened worker = record worker { acts = [] }
