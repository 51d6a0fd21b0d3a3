-- A server over a list of operations: our own words.
use Rattle.std.specs.Prelude.{◌≡◌, ◌⊎◌, ◌<◌, ◌-◌, ◌^◌, ℕ, Option, Some, None, Result, Ok, Err, List, [], ◌∷◌, take, slice_get}
use Rattle.std.specs.Option.{option_map}
use Rattle.sys_vars.specs.declared.published.Record.{Record}
use Rattle.server_core.specs.declared.op.Op.{Op}
use Rattle.server_core.specs.declared.op.Op.TheVariants.{Publish, Arrive, Read}
use Rattle.server_core.specs.declared.step.Reply.{Reply}
use Rattle.server_core.specs.declared.step.StepFault.{StepFault}
use Rattle.server_core.specs.declared.step.StepFault.TheVariants.{NoMemory}
use Rattle.server_core.specs.Books.{BookParts, MayWant, stepped}
use Rattle.server_core.specs.States.{ServerState, refusal_of, reply_to, state_after}
use Rattle.turnstile.specs.Histories.{state_after as after_each}

-- the server after operations, one after another
abbrev pub state_after_all : ServerState → List Op → ServerState
state_after_all s ops = after_each state_after s ops

-- the server after the first so many of these operations
abbrev pub state_at : ServerState → List Op → ℕ → ServerState
state_at s ops count = state_after_all s (take count ops)

-- what the operation at a place, counted from 0, is answered: none where there is no such place
abbrev pub reply_at : ServerState → List Op → ℕ → Option Reply
reply_at s ops place = option_map (reply_to (state_at s ops place)) (slice_get ops place)

-- the records that operations publish, in their order
abbrev pub records_in : List Op → List Record
records_in [] = []
records_in (Publish boxed ∷ ops) = boxed.value ∷ records_in ops
records_in (_ ∷ ops) = records_in ops

-- the records that are published over operations, in their order: the first is there before them
abbrev pub published_by : Record → List Op → List Record
published_by opening ops = opening ∷ records_in ops

-- an operation may stand at this state: a publication has a greater epoch than the one before it, and neither a request
-- for the time nor a read of the client list stands at the greatest stamp that there is
abbrev pub IsLegalAt : ServerState → Op → Type 0
IsLegalAt s (Publish boxed) = s.published.epoch < boxed.value.epoch
IsLegalAt s (Arrive ask moment) = s.stamp < 2 ^ 64 - 1
IsLegalAt s (Read ask moment) = s.stamp < 2 ^ 64 - 1
IsLegalAt s _ = Unit {0}

-- operations are legal where each may stand at its state
abbrev pub IsLegal : ServerState → List Op → Type 0
IsLegal s [] = Unit {0}
IsLegal s (op ∷ ops) = IsLegalAt s op × IsLegal (state_after s op) ops

-- a place in a history: the server at its beginning, and the operations before the place and after it
pub record Place : Type 0 where
  pub opening : ServerState
  pub before : List Op
  pub after : List Op

-- one operation over a book: it was answered, and the journal has it, or it was refused and left the book as it was
abbrev pub IsStep : BookParts → Op → Result Reply StepFault → BookParts → Type 0
IsStep book op (Ok reply) next =
    (refusal_of book.journal book.state.stamp op ≡ None)
    × (reply ≡ reply_to book.state op)
    × (next ≡ stepped book op)
IsStep book op (Err fault) next =
    ((refusal_of book.journal book.state.stamp op ≡ Some fault)
    ⊎ ((fault ≡ NoMemory) × MayWant book.state op × (refusal_of book.journal book.state.stamp op ≡ None)))
    × (next ≡ book)

-- operations over a book, one after another, and what each was answered
abbrev pub AreSteps : BookParts → List Op → List (Result Reply StepFault) → BookParts → Type 0
AreSteps book [] [] last = last ≡ book
AreSteps book [] (answer ∷ answers) last = ⊥
AreSteps book (op ∷ ops) [] last = ⊥
AreSteps book (op ∷ ops) (answer ∷ answers) last = (next : BookParts) × IsStep book op answer next × AreSteps next ops answers last

-- the operations that were not refused, in their order
abbrev pub accepted : List Op → List (Result Reply StepFault) → List Op
accepted [] answers = []
accepted (op ∷ ops) [] = []
accepted (op ∷ ops) (Ok reply ∷ answers) = op ∷ accepted ops answers
accepted (op ∷ ops) (Err fault ∷ answers) = accepted ops answers
