-- The one history of a server that callers share, and what a call adds to it: our own words.
use Rattle.std.specs.Prelude.{◌≡◌, ◌⊎◌, ◌+◌, ◌≤◌, ℕ, Some, None, List, [], ◌∷◌, ◌++◌, length}
use mathlib.Core.List.{IsPrefix}
use Rattle.server_core.specs.declared.op.Op.{Op}
use Rattle.server_core.specs.declared.step.Reply.{Reply}
use Rattle.server_core.specs.declared.step.StepFault.{StepFault}
use Rattle.server_core.specs.declared.step.StepFault.TheVariants.{NoMemory}
use Rattle.server_core.specs.Books.{IsShort, IsTellableReply, MayWant}
use Rattle.server_core.specs.Histories.{state_after_all}
use Rattle.server_core.specs.States.{ServerState, refusal_of, reply_to}
use Rattle.turnstile.specs.Seats.{SeatView}

-- what a seat of a shared server knows
abbrev pub View : Type 0
View = SeatView Op ServerState

-- An operation stands in a history at this place, and this is its reply there: that of the server after the operations
-- before it, which did not refuse it.
pub record IsEntry (opening : ServerState) (history : List Op) (place : ℕ) (op : Op) (reply : Reply) : Type 0 where
  pub before : List Op
  pub after : List Op
  pub whole : history ≡ before ++ op ∷ after
  pub placed : length before ≡ place
  pub unrefused : refusal_of before (state_after_all opening before).stamp op ≡ None
  pub answered : reply ≡ reply_to (state_after_all opening before) op

-- A call entered an operation, at this place: it is the last that the caller has seen, after all that it had seen, and one
-- more of its own.
pub record IsEntered (opening : ServerState) (old : View) (op : Op) (place : ℕ) (reply : Reply) (new : View) : Type 0 where
  pub entry : IsEntry opening new.front place op reply
  pub longer : IsPrefix old.front new.front
  pub later : length old.front ≤ place
  pub last : length new.front ≡ place + 1
  pub counted : new.own ≡ old.own ++ place ∷ []
  pub short : IsShort reply
  pub tellable : IsTellableReply reply

-- A call was refused for this fault: the server refuses the operation after the history that the caller has seen then, or
-- memory was wanting.
pub record IsUnentered (opening : ServerState) (old : View) (op : Op) (fault : StepFault) (new : View) : Type 0 where
  pub longer : IsPrefix old.front new.front
  pub why : (refusal_of new.front (state_after_all opening new.front).stamp op ≡ Some fault)
      ⊎ ((fault ≡ NoMemory) × MayWant (state_after_all opening new.front) op)
  pub own_kept : new.own ≡ old.own

-- a seat stays one of its turnstile, with its share, over the same opening
pub record IsSameSeat (old new : View) : Type 0 where
  pub door_kept : new.door ≡ old.door
  pub share_kept : new.share ≡ old.share
  pub opening_kept : new.opening ≡ old.opening
