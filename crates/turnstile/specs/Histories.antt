-- One history of an object that callers share: our own words.
use Rattle.std.specs.Prelude.{◌≡◌, ◌⊎◌, ◌==◌, ℕ, nat_lt, if◌then◌else◌, Option, Some, None, List, [], ◌∷◌, ◌++◌, length, ◌+◌}
use Rattle.std.specs.List.{count_by}
use mathlib.Core.List.{IsPrefix}
use Rattle.turnstile.specs.Seats.{SeatView}

-- how often a place stands in these
abbrev pub times : ℕ → List ℕ → ℕ
times place places = count_by (λ other. other == place) places

-- how often a place stands among the places of so many operations: once below their number, and else never
abbrev pub once_below : ℕ → ℕ → ℕ
once_below place count = if nat_lt place count then 1 else 0

-- the state after operations, one after another
abbrev pub state_after : {Op State : Type 0} → (State → Op → State) → State → List Op → State
state_after next s [] = s
state_after next s (op ∷ ops) = state_after next (next s op) ops

-- each operation of a history was one that is not refused, but for want of memory, in the state and after the
-- operations before it
abbrev pub IsHistory : {Op Fault State : Type 0} → (State → Op → State) → (State → List Op → Op → Option Fault) → State → List Op → Type 0
IsHistory {Op = Op} next refusal s history =
    (front : List Op) (op : Op) (rest : List Op)
    → history ≡ front ++ op ∷ rest → refusal (state_after next s front) front op ≡ None

-- An operation was taken, at this place of the history, and got this reply: the caller has seen the history before it,
-- which begins with all that it had seen, and the operation at its end; the call is one more of its own.
pub record IsTaken {Op Reply Fault State : Type 0} (next : State → Op → State) (reply_to : State → Op → Reply) (refusal : State → List Op → Op → Option Fault) (fits : Reply → Type 0) (opening : State) (old : SeatView Op State) (op : Op) (place : ℕ) (reply : Reply) (new : SeatView Op State) : Type 0 where
  pub before : List Op
  pub begins : IsPrefix old.front before
  pub placed : length before ≡ place
  pub seen : new.front ≡ before ++ op ∷ []
  pub open_ : refusal (state_after next opening before) before op ≡ None
  pub answered : reply ≡ reply_to (state_after next opening before) op
  pub fitting : fits reply
  pub counted : new.own ≡ old.own ++ place ∷ []

-- An operation was refused after these so many operations: the caller has seen them, and they begin with all that it had
-- seen. The history has no entry of it.
pub record IsRefused {Op Fault State : Type 0} (next : State → Op → State) (refusal : State → List Op → Op → Option Fault) (lacks : State → Op → Type 0) (no_memory : Fault) (opening : State) (old : SeatView Op State) (op : Op) (place : ℕ) (fault : Fault) (new : SeatView Op State) : Type 0 where
  pub begins : IsPrefix old.front new.front
  pub placed : length new.front ≡ place
  pub why : (refusal (state_after next opening new.front) new.front op ≡ Some fault)
      ⊎ ((fault ≡ no_memory) × lacks (state_after next opening new.front) op
      × (refusal (state_after next opening new.front) new.front op ≡ None))
  pub own_kept : new.own ≡ old.own

-- how many times a place stands among the own calls of these seats
abbrev pub times_of_all : {Op State : Type 0} → ℕ → List (SeatView Op State) → ℕ
times_of_all place [] = 0
times_of_all place (seat ∷ seats) = times place seat.own + times_of_all place seats

-- the shares of these seats, added up
abbrev pub shares_of : {Op State : Type 0} → List (SeatView Op State) → ℕ
shares_of [] = 0
shares_of (seat ∷ seats) = seat.share + shares_of seats
