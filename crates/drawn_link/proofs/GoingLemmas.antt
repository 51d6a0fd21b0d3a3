-- A server that goes on by legal operations.
use Rattle.std.proofs.Common.{◌≡◌, ◌<◌, ◌-◌, ◌^◌, ℕ, Bool, true, false, cond, Option, Some, None, Result, Ok, Err, List, [], ◌∷◌, ◌++◌, length, refl, sym, ap, subst, ◌∙◌, append_assoc}
use Rattle.std.proofs.lemmas.Bool.{leb-false}
use Rattle.std.proofs.lemmas.List.{append-nil}
use Rattle.std.specs.Prelude.{nat_le}
use Rattle.std.specs.List.{AllByRecursion}
use mathlib.Core.List.{IsPrefix}
use Rattle.server_core.specs.declared.class.Ask.{Ask}
use Rattle.server_core.specs.declared.class.ReadAsk.{ReadAsk}
use Rattle.server_core.specs.declared.op.Op.{Op}
use Rattle.server_core.specs.declared.op.Op.TheVariants.{Publish, Arrive, Look, Read, Sweep, Stop}
use Rattle.server_core.specs.declared.op.Stop.{Stop as Stopping}
use Rattle.server_core.specs.declared.op.TheConstants.{MAX_ENTRIES}
use Rattle.server_core.specs.declared.step.Reply.{Reply}
use Rattle.server_core.specs.declared.step.StepFault.{StepFault}
use Rattle.server_core.specs.Books.{BookParts}
use Rattle.server_core.specs.Histories.{AreSteps, IsLegal, IsLegalAt, state_after_all}
use Rattle.server_core.specs.States.{ServerState, refusal_after, refusal_of, state_after, stop_in}
use Rattle.server_core.proofs.HistoryLemmas.{IsLegal-append}
use Rattle.drawn_link.specs.Arrivals.{IsAmidst}
use Rattle.drawn_link.specs.Services.{Runs}

-- the server after operations, and then others
pub state_after_all-then : (s : ServerState) (xs ys : List Op) → state_after_all s (xs ++ ys) ≡ state_after_all (state_after_all s xs) ys
state_after_all-then s [] ys = refl
state_after_all-then s (x ∷ xs) ys = state_after_all-then (state_after s x) xs ys

-- it stays as it is
pub Runs-same : (old new : BookParts) → new ≡ old → Runs old new
Runs-same old new same = record {
  more = [];
  journal_is = ap (λ (b : BookParts). b.journal) same ∙ sym (append-nil old.journal);
  state_is = ap (λ (b : BookParts). b.state) same;
  legal = tt;
}

-- it goes on, and then goes on
pub Runs-then : (old mid new : BookParts) → Runs old mid → Runs mid new → Runs old new
Runs-then old mid new first second = record {
  more = first.more ++ second.more;
  journal_is = second.journal_is ∙ ap (λ (ops : List Op). ops ++ second.more) first.journal_is ∙ append_assoc old.journal first.more second.more;
  state_is = second.state_is ∙ ap (λ (s : ServerState). state_after_all s second.more) first.state_is ∙ sym (state_after_all-then old.state first.more second.more);
  legal = IsLegal-append old.state first.more second.more first.legal (subst (λ (s : ServerState). IsLegal s second.more) first.state_is second.legal);
}

-- it takes one operation
pub Runs-one : (old new : BookParts) (op : Op) → IsLegalAt old.state op → new.state ≡ state_after old.state op → new.journal ≡ old.journal ++ op ∷ [] → Runs old new
Runs-one old new op legal state_is journal_is = record { more = op ∷ []; journal_is = journal_is; state_is = state_is; legal = (legal, tt) }

-- the stamp is not the greatest where a stamp may be drawn
below_last : (full last : Bool) (stamp : ℕ) (entries clock : StepFault) → nat_le (2 ^ 64 - 1) stamp ≡ last → cond full (Some entries) (cond last (Some clock) None) ≡ None → stamp < 2 ^ 64 - 1
below_last true last stamp entries clock same is = absurd (cc is)
below_last false true stamp entries clock same is = absurd (cc is)
below_last false false stamp entries clock same is = leb-false (2 ^ 64 - 1) stamp same

-- an arrival that is not refused is legal
pub legal-arrive : (stop : Option Stopping) (journal : List Op) (stamp : ℕ) (ask : Ask) (moment : ℕ) → refusal_after stop journal stamp (Arrive ask moment) ≡ None → stamp < 2 ^ 64 - 1
legal-arrive (Some stop) journal stamp ask moment is = absurd (cc is)
legal-arrive None journal stamp ask moment is = below_last (nat_le MAX_ENTRIES (length journal)) (nat_le (2 ^ 64 - 1) stamp) stamp _ _ refl is

-- so is a read
pub legal-read : (stop : Option Stopping) (journal : List Op) (stamp : ℕ) (ask : ReadAsk) (moment : ℕ) → refusal_after stop journal stamp (Read ask moment) ≡ None → stamp < 2 ^ 64 - 1
legal-read (Some stop) journal stamp ask moment is = absurd (cc is)
legal-read None journal stamp ask moment is = below_last (nat_le MAX_ENTRIES (length journal)) (nat_le (2 ^ 64 - 1) stamp) stamp _ _ refl is

-- what happens amidst and is not refused is legal
legal-amidst : (book : BookParts) (op : Op) → IsAmidst op → refusal_of book.journal book.state.stamp op ≡ None → IsLegalAt book.state op
legal-amidst book (Arrive ask moment) amidst is = legal-arrive (stop_in book.journal) book.journal book.state.stamp ask moment is
legal-amidst book (Sweep moment) amidst is = tt
legal-amidst book (Publish boxed) amidst is = absurd amidst
legal-amidst book (Look asked context) amidst is = absurd amidst
legal-amidst book (Read ask moment) amidst is = absurd amidst
legal-amidst book (Stop stop) amidst is = absurd amidst

-- the server goes on by what happens amidst, but for what it refuses
pub Runs-amidst : (book : BookParts) (ops : List Op) (answers : List (Result Reply StepFault)) (last : BookParts) → AllByRecursion IsAmidst ops → AreSteps book ops answers last → Runs book last
Runs-amidst book [] [] last amidst same = Runs-same book last same
Runs-amidst book [] (answer ∷ answers) last amidst none = absurd none
Runs-amidst book (op ∷ ops) [] last amidst none = absurd none
Runs-amidst book (op ∷ ops) (Ok reply ∷ answers) last amidst (next, step, rest) =
    Runs-then book next last
    (Runs-one book next op (legal-amidst book op amidst.0 step.0) (ap (λ (b : BookParts). b.state) step.2) (ap (λ (b : BookParts). b.journal) step.2))
    (Runs-amidst next ops answers last amidst.1 rest)
Runs-amidst book (op ∷ ops) (Err fault ∷ answers) last amidst (next, step, rest) =
    Runs-then book next last (Runs-same book next step.1) (Runs-amidst next ops answers last amidst.1 rest)

-- the journal that a server had is a front of the one that it has
pub front-Runs : (old new : BookParts) → Runs old new → IsPrefix old.journal new.journal
front-Runs old new runs = (runs.more, sym runs.journal_is)

-- the server is still that of its journal
pub reached-Runs : (opening : ServerState) (old new : BookParts) → Runs old new → old.state ≡ state_after_all opening old.journal → new.state ≡ state_after_all opening new.journal
reached-Runs opening old new runs reached =
    runs.state_is ∙ ap (λ (s : ServerState). state_after_all s runs.more) reached
    ∙ sym (state_after_all-then opening old.journal runs.more)
    ∙ ap (state_after_all opening) (sym runs.journal_is)

-- its journal is still legal
pub legal-Runs : (opening : ServerState) (old new : BookParts) → Runs old new → old.state ≡ state_after_all opening old.journal → IsLegal opening old.journal → IsLegal opening new.journal
legal-Runs opening old new runs reached legal =
    subst (IsLegal opening) (sym runs.journal_is)
    (IsLegal-append opening old.journal runs.more legal (subst (λ (s : ServerState). IsLegal s runs.more) reached runs.legal))
