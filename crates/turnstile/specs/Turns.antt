-- The rule of a turnstile's words, its object and what its callers know, and what each step tells.
-- The words are the next ticket, the ticket that is served, both modulo 2^64, and how many operations were taken.
use Rattle.std.specs.Prelude.{◌≡◌, ◌≢◌, ◌⊎◌, ℕ, ◌+◌, ◌-◌, ◌/◌, ◌%◌, ◌^◌, ◌<◌, ◌≤◌, List, [], ◌∷◌, ◌++◌, length, Result, IfOk, OnOk, OnErr, MatchResult}
use Rattle.std.specs.Prelude.{None as Unknown, Some as Known, Option as Maybe}
use mathlib.Core.List.{IsPrefix}
use mathlib.Core.Option.{none, some}
use lib.ListN.{get_elem?}
use Rattle.atomic_table.specs.Table.{State, Me, Step}
use Rattle.atomic_table.specs.Seated.{TableId}
use Rattle.turnstile.specs.Seats.{SeatView}
use Rattle.turnstile.specs.declared.seen.Seen.{Seen}
use Rattle.turnstile.specs.declared.seen.Stage.{Stage}
use Rattle.turnstile.specs.declared.seen.Stage.TheVariants.{Out, Waits, Has}
use Rattle.turnstile.specs.Histories.{IsHistory, state_after, times, once_below}

-- the values of f at these, added up
abbrev pub total : {A : Type 0} → (A → ℕ) → List A → ℕ
total f [] = 0
total f (v ∷ vs) = f v + total f vs

-- how many tickets one who stands there has
abbrev pub tickets : Stage → ℕ
tickets Out = 0
tickets (Waits n) = 1
tickets (Has n) = 1

-- it has this ticket
abbrev pub HasTicket : ℕ → Stage → Type 0
HasTicket n Out = ⊥
HasTicket n (Waits m) = m ≡ n
HasTicket n (Has m) = m ≡ n

-- it has the turn
abbrev pub HasTurn : Stage → Type 0
HasTurn Out = ⊥
HasTurn (Waits n) = ⊥
HasTurn (Has n) = Unit {0}

-- each of these is a front of the history
abbrev pub AreFronts : {P : Type 0} → List P → List (List P) → Type 0
AreFronts history [] = Unit {0}
AreFronts history (f ∷ fs) = IsPrefix f history × AreFronts history fs

-- a ticket that waits is one of those that are out, and that of the turn is served; who has the turn has seen all
abbrev pub InTurn : {P : Type 0} → List P → ℕ → ℕ → List P → Stage → Type 0
InTurn journal served given front Out = Unit {0}
InTurn journal served given front (Waits n) = (served ≤ n) × (n < given)
InTurn journal served given front (Has n) = (n ≡ served) × (served < given) × (front ≡ journal)

module _ {P S : Type 0} where
  -- what a seat is left with that was joined to another
  abbrev pub spent : Seen P S
  spent = record { stage = Out; share = 0; opening = Unknown; front = []; heard = []; own = [] }

  -- what the first seat knows
  abbrev pub first_seen : S → Seen P S
  first_seen opening = record { stage = Out; share = 2 ^ 32; opening = Known opening; front = []; heard = []; own = [] }

  -- the same, at another stage
  abbrev pub at_stage : Stage → Seen P S → Seen P S
  at_stage stage v = record v { stage = stage }

  -- what the old seat knows after a split
  abbrev pub left_of : Seen P S → Seen P S
  left_of v = record v { share = v.share - v.share / 2 }

  -- what the new seat knows after a split
  abbrev pub right_of : Seen P S → Seen P S
  right_of v = record { stage = Out; share = v.share / 2; opening = v.opening; front = v.front; heard = []; own = [] }

  -- what two joined seats know
  abbrev pub both_of : Seen P S → Seen P S → Seen P S
  both_of v w = record {
    stage = v.stage;
    share = v.share + w.share;
    opening = v.opening;
    front = v.front;
    heard = w.front ∷ (w.heard ++ v.heard);
    own = v.own ++ w.own;
  }

  -- its share
  abbrev pub share_of : Seen P S → ℕ
  share_of v = v.share

  -- how many tickets it has
  abbrev pub tickets_of : Seen P S → ℕ
  tickets_of v = tickets v.stage

  -- how often the place stands among its calls
  abbrev pub times_of : ℕ → Seen P S → ℕ
  times_of place v = times place v.own

-- what holds of what a caller knows whose seat was not joined to another
pub record IsAlive {P S : Type 0} (opening : S) (journal : List P) (served given : ℕ) (v : Seen P S) : Type 0 where
  pub some_share : 1 ≤ v.share
  pub opened : v.opening ≡ Known opening
  pub seen : IsPrefix v.front journal
  pub heard : AreFronts journal v.heard
  pub in_turn : InTurn journal served given v.front v.stage

module _ {O P S F : Type 0} (journal_of : O → List P) (state_of : O → S) (next : S → P → S) (refusal : S → List P → P → Maybe F) where
  -- nobody has the turn, and the object is at home
  pub record IsHome (opening : S) (journal : List P) (s : State O (Seen P S)) : Type 0 where
    pub object : O
    pub there : s.homes ≡ some object ∷ []
    pub journal_is : journal_of object ≡ journal
    pub state_is : state_of object ≡ state_after next opening journal
    pub nobody : (j : ℕ) (v : Seen P S) → get_elem? s.views j ≡ some v → HasTurn v.stage → ⊥

  -- one has the turn, and the object is with it
  pub record IsAway (s : State O (Seen P S)) : Type 0 where
    pub holder : ℕ
    pub view : Seen P S
    pub at : get_elem? s.views holder ≡ some view
    pub has_turn : HasTurn view.stage
    pub gone : s.homes ≡ none ∷ []

  -- there is one legal history. The object keeps it, or who has the turn knows it
  pub record InOneHistory (s : State O (Seen P S)) : Type 0 where
    pub opening : S
    pub journal : List P
    pub served : ℕ
    pub given : ℕ
    pub words : s.words ≡ given % 2 ^ 64 ∷ served % 2 ^ 64 ∷ length journal ∷ []
    pub few : served + total tickets_of s.views ≡ given
    pub whole : total share_of s.views ≡ 2 ^ 32
    pub each : (j : ℕ) (v : Seen P S) → get_elem? s.views j ≡ some v → (v ≡ spent) ⊎ IsAlive opening journal served given v
    pub apart : (j k n : ℕ) (v w : Seen P S) → get_elem? s.views j ≡ some v → get_elem? s.views k ≡ some w
        → HasTicket n v.stage → HasTicket n w.stage → j ≡ k
    pub place : IsHome opening journal s ⊎ IsAway s
    pub once : (place : ℕ) → total (times_of place) s.views ≡ once_below place (length journal)
    pub legal : IsHistory next refusal opening journal
    pub short : length journal < 2 ^ 63

  -- the object at the end, and what a caller knows who has all shares
  pub record Closes (v : Seen P S) (object : O) : Type 0 where
    pub state_is : (o : S) → v.opening ≡ Known o → state_of object ≡ state_after next o (journal_of object)
    pub legal : (o : S) → v.opening ≡ Known o → IsHistory next refusal o (journal_of object)
    pub seen : IsPrefix v.front (journal_of object)
    pub heard : AreFronts (journal_of object) v.heard
    pub once : (place : ℕ) → times place v.own ≡ once_below place (length (journal_of object))
    pub short : length (journal_of object) < 2 ^ 63

module _ {O P S : Type 0} where
  -- one draws a ticket
  abbrev pub drawn : Step O → Me O (Seen P S) → ℕ → Me O (Seen P S) → Type 0
  drawn st m found m' = (n : ℕ) × (found ≡ n % 2 ^ 64) × (m' ≡ (at_stage (Waits n) m.0, m.1))

  -- its turn has come: it has the object, and has seen the history so far
  pub record HasArrived (journal_of : O → List P) (state_of : O → S) (next : S → P → S) (m m' : Me O (Seen P S)) : Type 0 where
    pub number : ℕ
    pub object : O
    pub now : m' ≡ (record m.0 { stage = Has number; front = journal_of object }, (0, object) ∷ [])
    pub grows : IsPrefix m.0.front (journal_of object)
    pub state_is : (opening : S) → m.0.opening ≡ Known opening → state_of object ≡ state_after next opening (journal_of object)

  -- one who waits sees which ticket is served
  abbrev pub looked : (O → List P) → (O → S) → (S → P → S) → Step O → Me O (Seen P S) → ℕ → Me O (Seen P S) → Type 0
  looked journal_of state_of next st m found m' =
      (n : ℕ) → m.0.stage ≡ Waits n → m.1 ≡ []
      → (found ≢ n % 2 ^ 64 → m' ≡ m)
      × (found ≡ n % 2 ^ 64 → HasArrived journal_of state_of next m m')

  -- one who has the turn reads the count
  abbrev pub read : Step O → Me O (Seen P S) → ℕ → Me O (Seen P S) → Type 0
  read st m found m' = (n : ℕ) → m.0.stage ≡ Has n → (found ≡ length m.0.front) × (m' ≡ m)

  -- one who has the turn counts what the object took
  abbrev pub counted : (O → List P) → Step O → Me O (Seen P S) → ℕ → Me O (Seen P S) → Type 0
  counted journal_of st m found m' =
      (object : O) → m.1 ≡ (0, object) ∷ []
      → (found ≡ length m.0.front) × (m' ≡ (record m.0 { front = journal_of object; own = m.0.own ++ found ∷ [] }, m.1))

  -- one who has the turn passes it on
  abbrev pub passed : Step O → Me O (Seen P S) → ℕ → Me O (Seen P S) → Type 0
  passed st m found m' = m' ≡ (at_stage Out m.0, [])

  -- it is out, has nothing, and its seat was not joined to another
  pub record IsReady (m : Me O (Seen P S)) : Type 0 where
    pub is_out : m.0.stage ≡ Out
    pub has_none : m.1 ≡ []
    pub some_share : 1 ≤ m.0.share

  -- it has this ticket, and waits
  pub record IsWaiting (ticket : ℕ) (m : Me O (Seen P S)) : Type 0 where
    pub number : ℕ
    pub ticket_is : ticket ≡ number % 2 ^ 64
    pub waits : m.0.stage ≡ Waits number
    pub has_none : m.1 ≡ []
    pub some_share : 1 ≤ m.0.share

  -- it has the turn, and the object with the history that it has seen
  pub record IsServed (journal_of : O → List P) (state_of : O → S) (next : S → P → S) (m : Me O (Seen P S)) : Type 0 where
    pub number : ℕ
    pub object : O
    pub has : m.0.stage ≡ Has number
    pub some_share : 1 ≤ m.0.share
    pub holds : m.1 ≡ (0, object) ∷ []
    pub journal_is : journal_of object ≡ m.0.front
    pub state_is : (opening : S) → m.0.opening ≡ Known opening → state_of object ≡ state_after next opening m.0.front

  -- it has the turn, and the object has taken one operation more
  pub record HasTaken {F : Type 0} (journal_of : O → List P) (next : S → P → S) (refusal : S → List P → P → Maybe F) (m : Me O (Seen P S)) : Type 0 where
    pub number : ℕ
    pub object : O
    pub op : P
    pub has : m.0.stage ≡ Has number
    pub some_share : 1 ≤ m.0.share
    pub holds : m.1 ≡ (0, object) ∷ []
    pub journal_is : journal_of object ≡ m.0.front ++ op ∷ []
    pub short : length (journal_of object) < 2 ^ 63
    pub open_ : (opening : S) → m.0.opening ≡ Known opening → refusal (state_after next opening m.0.front) m.0.front op ≡ Unknown

  -- what contracts see
  abbrev pub view_of : TableId → Me O (Seen P S) → SeatView P S
  view_of door m = record { door = door; share = m.0.share; opening = m.0.opening; front = m.0.front; own = m.0.own }

-- what the object's own step says
pub record Steps {O P S R F : Type 0} (journal_of : O → List P) (state_of : O → S) (next : S → P → S) (reply_to : S → P → R) (refusal : S → List P → P → Maybe F) (fits : R → Type 0) (lacks : S → P → Type 0) (no_memory : F) (object : O) (op : P) (after : O) (result : Result R F) : Type 0 where
  pub answered : MatchResult result
      (λ reply. (refusal (state_of object) (journal_of object) op ≡ Unknown) × (reply ≡ reply_to (state_of object) op))
      (λ fault. (refusal (state_of object) (journal_of object) op ≡ Known fault)
      ⊎ ((fault ≡ no_memory) × lacks (state_of object) op × (refusal (state_of object) (journal_of object) op ≡ Unknown)))
  pub fitting : IfOk result fits
  pub state_is : OnOk result (state_of after ≡ next (state_of object) op)
  pub entered : OnOk result (journal_of after ≡ journal_of object ++ op ∷ [])
  pub short : length (journal_of after) < 2 ^ 63
  pub kept : OnErr result (state_of after ≡ state_of object)
  pub journal_kept : OnErr result (journal_of after ≡ journal_of object)
