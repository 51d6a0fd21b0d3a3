-- A book over a list of operations.
use Rattle.std.proofs.Common.{◌≡◌, ◌⊎◌, ℕ, Some, None, Result, Ok, Err, List, [], ◌∷◌, ◌++◌, OnOk, OnErr, length, slice_get, ◌+◌, refl, sym, ap, subst, ◌∙◌, append_assoc, length-append, arith}
use Rattle.std.specs.Prelude.{MatchResult}
use Rattle.std.proofs.lemmas.List.{append-nil}
use Rattle.sys_vars.specs.declared.published.Record.{Record}
use Rattle.server_core.specs.declared.op.Op.{Op}
use Rattle.server_core.specs.declared.op.Op.TheVariants.{Publish, Arrive, Look, Read, Sweep, Stop}
use Rattle.server_core.specs.declared.step.Reply.{Reply}
use Rattle.server_core.specs.declared.step.StepFault.{StepFault}
use Rattle.server_core.specs.declared.step.StepFault.TheVariants.{NoMemory}
use Rattle.server_core.specs.Books.{BookParts, MayWant}
use Rattle.server_core.specs.Histories.{AreSteps, IsLegal, IsStep, accepted, published_by, records_in, reply_at, state_after_all}
use Rattle.server_core.specs.Journals.{published_in}
use Rattle.server_core.specs.States.{ServerState, refusal_of, reply_to, state_after}

-- what one call of `step` does is a step
pub IsStep-from : (old new : BookParts) (op : Op) (r : Result Reply StepFault)
    → MatchResult r
    (λ reply. (refusal_of old.journal old.state.stamp op ≡ None) × (reply ≡ reply_to old.state op))
    (λ fault. (refusal_of old.journal old.state.stamp op ≡ Some fault)
    ⊎ ((fault ≡ NoMemory) × MayWant old.state op × (refusal_of old.journal old.state.stamp op ≡ None)))
    → OnOk r (new.state ≡ state_after old.state op) → OnOk r (new.journal ≡ old.journal ++ op ∷ []) → OnErr r (new ≡ old)
    → IsStep old op r new
IsStep-from old new op (Ok reply) answered next entered kept = (answered.0, answered.1, λ i. record { state = next i; journal = entered i })
IsStep-from old new op (Err fault) answered next entered kept = (answered, kept)

-- one step more
pub AreSteps-append : (book : BookParts) (ops : List Op) (answers : List (Result Reply StepFault)) (between last : BookParts) (op : Op) (answer : Result Reply StepFault)
    → AreSteps book ops answers between → IsStep between op answer last → AreSteps book (ops ++ op ∷ []) (answers ++ answer ∷ []) last
AreSteps-append book [] [] between last op answer same step = (last, rw same at step, refl)
AreSteps-append book [] (other ∷ answers) between last op answer none step = absurd none
AreSteps-append book (first ∷ ops) [] between last op answer none step = absurd none
AreSteps-append book (first ∷ ops) (other ∷ answers) between last op answer (next, one, rest) step =
    (next, one, AreSteps-append next ops answers between last op answer rest step)

-- the server after steps is the one that the definition makes of the operations that were not refused
pub state-AreSteps : (book : BookParts) (ops : List Op) (answers : List (Result Reply StepFault)) (last : BookParts)
    → AreSteps book ops answers last → last.state ≡ state_after_all book.state (accepted ops answers)
state-AreSteps book [] [] last same = ap (λ (b : BookParts). b.state) same
state-AreSteps book [] (answer ∷ answers) last none = absurd none
state-AreSteps book (op ∷ ops) [] last none = absurd none
state-AreSteps book (op ∷ ops) (Ok reply ∷ answers) last (next, step, rest) =
    state-AreSteps next ops answers last rest ∙ ap (λ (b : BookParts). state_after_all b.state (accepted ops answers)) step.2
state-AreSteps book (op ∷ ops) (Err fault ∷ answers) last (next, step, rest) =
    state-AreSteps next ops answers last rest ∙ ap (λ (b : BookParts). state_after_all b.state (accepted ops answers)) step.1

-- and its journal has gained just these
pub journal-AreSteps : (book : BookParts) (ops : List Op) (answers : List (Result Reply StepFault)) (last : BookParts)
    → AreSteps book ops answers last → last.journal ≡ book.journal ++ accepted ops answers
journal-AreSteps book [] [] last same = ap (λ (b : BookParts). b.journal) same ∙ sym (append-nil book.journal)
journal-AreSteps book [] (answer ∷ answers) last none = absurd none
journal-AreSteps book (op ∷ ops) [] last none = absurd none
journal-AreSteps book (op ∷ ops) (Ok reply ∷ answers) last (next, step, rest) =
    journal-AreSteps next ops answers last rest
    ∙ ap (λ (b : BookParts). b.journal ++ accepted ops answers) step.2
    ∙ append_assoc book.journal (op ∷ []) (accepted ops answers)
journal-AreSteps book (op ∷ ops) (Err fault ∷ answers) last (next, step, rest) =
    journal-AreSteps next ops answers last rest ∙ ap (λ (b : BookParts). b.journal ++ accepted ops answers) step.1

-- one answer more
pub length-one : (answers : List (Result Reply StepFault)) (answer : Result Reply StepFault) → length (answers ++ answer ∷ []) ≡ length answers + 1
length-one answers answer = length-append answers (answer ∷ [])

-- where no operation is left, all of them were taken
pub AreSteps-ended : (book : BookParts) (all taken left : List Op) (answers : List (Result Reply StepFault)) (last : BookParts) (n : ℕ)
    → AreSteps book taken answers last → all ≡ taken ++ left → n ≡ length left → n ≡ 0 → AreSteps book all answers last
AreSteps-ended book all taken [] answers last n steps rest counted none =
    subst (λ (ops : List Op). AreSteps book ops answers last) (sym (rest ∙ append-nil taken)) steps
AreSteps-ended book all taken (op ∷ left) answers last n steps rest counted none = absurd (omega (arith, counted, none))

-- an operation is answered by the state that those before it make, whatever follows
pub reply_at-place : (s : ServerState) (before after : List Op) (op : Op) → reply_at s (before ++ op ∷ after) (length before) ≡ Some (reply_to (state_after_all s before) op)
reply_at-place s [] after op = refl
reply_at-place s (first ∷ before) after op = reply_at-place (state_after s first) before after op

-- what is published is the last of the records that were
pub published_by-last : (opening : Record) (ops : List Op) → slice_get (published_by opening ops) (length (records_in ops)) ≡ Some (published_in opening ops)
published_by-last opening [] = refl
published_by-last opening (Publish boxed ∷ ops) = published_by-last boxed.value ops
published_by-last opening (Arrive ask moment ∷ ops) = published_by-last opening ops
published_by-last opening (Look asked context ∷ ops) = published_by-last opening ops
published_by-last opening (Read ask moment ∷ ops) = published_by-last opening ops
published_by-last opening (Sweep moment ∷ ops) = published_by-last opening ops
published_by-last opening (Stop stop ∷ ops) = published_by-last opening ops

-- legal operations, and legal ones after them, are legal as a whole
pub IsLegal-append : (s : ServerState) (before after : List Op) → IsLegal s before → IsLegal (state_after_all s before) after → IsLegal s (before ++ after)
IsLegal-append s [] after first second = second
IsLegal-append s (op ∷ before) after first second = (first.0, IsLegal-append (state_after s op) before after first.1 second)
