-- What a session of the server is: one history, and what each of its threads did in it. Our own words.
use Rattle.std.specs.Prelude.{◌≡◌, ℕ, List, [], ◌∷◌, length}
use Rattle.std.specs.List.{AllByRecursion}
use Rattle.server_core.specs.declared.op.Op.{Op}
use Rattle.server_core.specs.States.{ServerState, refusal_of, state_after}
use Rattle.shared_book.specs.declared.common.Common.{Common}
use Rattle.shared_book.specs.Entries.{View}
use Rattle.turnstile.specs.Histories.{IsHistory, once_below, times_of_all}
use Rattle.worker.specs.Doings.{Doing}
use Rattle.worker.specs.Workers.{WorkerView}
use Rattle.pilot.specs.Views.{PilotParts}
use Rattle.responders.specs.Flown.{Flown, HasFlown, IsPiloted}
use Rattle.responders.specs.Parts.{IsPart, Part}
use Rattle.responders.specs.Workers.{reopened}

-- the seats of workers after their parts
abbrev pub seats_after : List Part → List View
seats_after [] = []
seats_after (part ∷ parts) = part.after.seat ∷ seats_after parts

-- A session that began with this server: its history is one that one thread could have made, each worker and the pilot did
-- its part in it, and each place of it is exactly one call of one of them. The pilot's number is the number of workers.
pub record IsSession (common : Common) (opening : ServerState) (history : List Op) (parts : List Part) (flown : Flown) : Type 0 where
  pub legal : IsHistory state_after (λ s before op. refusal_of before s.stamp op) opening history
  pub worked : AllByRecursion (IsPart common opening history) parts
  pub piloted : HasFlown common opening history (length parts) flown
  pub once : (place : ℕ) → times_of_all place (flown.to ∷ seats_after parts) ≡ once_below place (length history)

-- a part was done by this worker, which began the session without acts, and left it so
pub record IsTheirs {P C : Type 0} (doing : WorkerView P C → View → Doing) (old : WorkerView P C) (part : Part) (new : WorkerView P C) : Type 0 where
  pub began : part.before ≡ doing (reopened old) part.before.seat
  pub left : part.after ≡ doing new part.after.seat

-- parts were done by these workers, one by each, in their order
abbrev pub AreTheirs : {P C : Type 0} → (WorkerView P C → View → Doing) → List (WorkerView P C) → List Part → List (WorkerView P C) → Type 0
AreTheirs doing [] [] [] = Unit {0}
AreTheirs doing (old ∷ olds) (part ∷ parts) (new ∷ news) = IsTheirs doing old part new × AreTheirs doing olds parts news
AreTheirs doing _ _ _ = ⊥

-- a session was served by these workers and by this pilot, which had been made ready, and left them so
pub record IsServed {P C : Type 0} (doing : WorkerView P C → View → Doing) (common : Common) (opening : ServerState) (history : List Op) (olds news : List (WorkerView P C)) (ready new : PilotParts) : Type 0 where
  pub parts : List Part
  pub flown : Flown
  pub is_session : IsSession common opening history parts flown
  pub theirs : AreTheirs doing olds parts news
  pub piloted : IsPiloted ready flown new
