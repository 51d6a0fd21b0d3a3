-- The rules by which a pilot goes from turn to turn: our own.
use Rattle.std.specs.Prelude.{◌≡◌, ◌<◌, ◌≤◌, ◌+◌, ◌-◌, ◌^◌, ℕ, Bool, true, false, Option, None, Some, IsSome, List, [], ◌∷◌}
use Rattle.associations.specs.Showing.{AreViews}
use Rattle.mac_keys.specs.declared.keys.Key.{Key}
use Rattle.net_addr.specs.declared.addr.Addr.{Addr}
use Rattle.server_core.specs.declared.op.Op.{Op}
use Rattle.server_core.specs.declared.op.Op.TheVariants.{Publish}
use Rattle.sys_vars.specs.declared.published.Record.{Record}
use Rattle.wheel.specs.DueTimes.{IsFirstDue, IsNoneDue}
use Rattle.pilot.specs.Hearing.{IsHeard}
use Rattle.pilot.specs.Script.{Fate, stands, lacking, refused, Deed, ticks, asks, Got, datagram, swept, unswept, failure, passed, closed, After, takes, breaks, Turn, end_of_after, stop_of_deed}
use Rattle.pilot.specs.Steering.{IsAsk, begun_at, ticked_at}
use Rattle.pilot.specs.declared.steering.Basis.{Basis}
use Rattle.pilot.specs.declared.steering.Steering.{Steering}
use Rattle.pilot.specs.declared.steering.TheConstants.{TICK_KEY}

-- the record of what a pilot steers by: its number, its system, the views of its servers and its clock, with the session's
-- rules and rate
pub record IsRecordOf (basis : Basis) (s : Steering) (rec : Record) : Type 0 where
  pub epoch : rec.epoch ≡ s.epoch
  pub system : rec.system ≡ s.system
  pub peers : AreViews s.peers rec.peers
  pub rules : rec.rules ≡ basis.rules
  pub rate : rec.rate ≡ basis.rate
  pub clock : rec.clock ≡ s.engine.clock

-- an operation publishes the record of what a pilot steers by
abbrev pub Publishes : Basis → Steering → Op → Type 0
Publishes basis s (Publish boxed) = IsRecordOf basis s boxed.value
Publishes basis s _ = ⊥

-- what became of the record of what a pilot steers by
abbrev pub IsFateOf : Basis → Steering → Fate → Type 0
IsFateOf basis s (stands place op) = Publishes basis s op
IsFateOf basis s lacking = Unit {0}
IsFateOf basis s (refused op made stop) = Publishes basis s op

-- what is steered by under the next number
abbrev pub numbered : Steering → Steering
numbered s = record s { epoch = s.epoch + 1 }

-- a record is given under the next number, whatever becomes of it; there is none after the last number
abbrev pub Gives : Basis → Steering → Option Fate → Steering → Type 0
Gives basis before None after = (2 ^ 64 - 1 ≤ before.epoch) × (after ≡ before)
Gives basis before (Some fate) after = (before.epoch < 2 ^ 64 - 1) × (after ≡ numbered before) × IsFateOf basis after fate

-- a record is given where one is due
abbrev pub GivesWhere : Bool → Basis → Steering → Option Fate → Steering → Type 0
GivesWhere true basis before fate after = Gives basis before fate after
GivesWhere false basis before fate after = (fate ≡ None) × (after ≡ before)

-- a tick that was the first to be due, and its record
pub record IsTick (basis : Basis) (at : ℕ) (before : Steering) (fate : Option Fate) (after : Steering) : Type 0 where
  pub first : IsFirstDue before.due at TICK_KEY
  pub gives : Gives basis (ticked_at at before) fate after

-- a request that was the first to be due, and the record of the changed reach register
pub record IsRequest (keys : List Key) (basis : Basis) (at : ℕ) (before : Steering) (peer : ℕ) (to : Addr) (octets : List ℕ) (fate : Option Fate) (after : Steering) : Type 0 where
  pub first : IsFirstDue before.due at peer
  pub between : Steering
  pub asked : IsAsk keys at before peer to octets between
  pub gives : Gives basis between fate after

-- a deed that was the first to be due at a moment
abbrev pub IsDeed : List Key → Basis → ℕ → Steering → Deed → Steering → Type 0
IsDeed keys basis at before (ticks fate) after = IsTick basis at before fate after
IsDeed keys basis at before (asks peer to octets gave fate) after = IsRequest keys basis at before peer to octets fate after

-- a deed whose record was not refused
abbrev pub IsDone : List Key → Basis → ℕ → Steering → Deed → Steering → Type 0
IsDone keys basis at before deed after = IsDeed keys basis at before deed after × (stop_of_deed deed ≡ None)

-- a datagram that came at a moment, and the record that it gives
pub record IsTakenIn (keys : List Key) (basis : Basis) (at : ℕ) (before : Steering) (from : Addr) (octets : List ℕ) (fate : Option Fate) (after : Steering) : Type 0 where
  pub due : Bool
  pub between : Steering
  pub heard : IsHeard keys at before from octets due between
  pub gives : GivesWhere due basis between fate after

-- what the port gave
abbrev pub IsGot : List Key → Basis → Steering → Got → Steering → Type 0
IsGot keys basis before (datagram at from octets fate) after = IsTakenIn keys basis at before from octets fate after
IsGot keys basis before (swept at place) after = after ≡ before
IsGot keys basis before (unswept at made stop) after = after ≡ before
IsGot keys basis before (failure made stop) after = after ≡ before
IsGot keys basis before passed after = after ≡ before
IsGot keys basis before closed after = after ≡ before

-- one step after another, each by this rule
abbrev pub Chain : {State Step : Type 0} → (State → Step → State → Type 0) → State → List Step → State → Type 0
Chain rule before [] after = after ≡ before
Chain {State} rule before (step ∷ steps) after = (between : State) × rule before step between × Chain rule between steps after

-- what came after the deeds of a turn
abbrev pub IsAfter : List Key → Basis → ℕ → Steering → After → Steering → Type 0
IsAfter keys basis at before (takes got) after = IsNoneDue before.due at × IsGot keys basis before got after
IsAfter keys basis at before (breaks deed) after = IsDeed keys basis at before deed after × IsSome (stop_of_deed deed)

-- one turn: its deeds at its reading, by due time and then by key, and then what the port gave
pub record IsTurn (keys : List Key) (basis : Basis) (before : Steering) (turn : Turn) (after : Steering) : Type 0 where
  pub between : Steering
  pub deeds : Chain (IsDone keys basis turn.at) (begun_at turn.at before) turn.deeds between
  pub rest : IsAfter keys basis turn.at between turn.after after

-- a turn that another follows
abbrev pub IsPassed : List Key → Basis → Steering → Turn → Steering → Type 0
IsPassed keys basis before turn after = IsTurn keys basis before turn after × (end_of_after turn.after ≡ None)
