-- What a call at a turnstile means for a shared server, and that an entry stands in each longer history.
use Rattle.std.proofs.Common.{◌≡◌, ◌⊎◌, ℕ, ◌+◌, ◌≤◌, length, Option, Some, None, List, [], ◌∷◌, ◌++◌, append_assoc, length-append, inl, inr, refl, sym, ap, ◌∙◌, arith}
use mathlib.Core.List.{IsPrefix}
use Rattle.server_core.specs.declared.op.Op.{Op}
use Rattle.server_core.specs.declared.op.Op.TheVariants.{Stop as Stops}
use Rattle.server_core.specs.declared.op.Stop.{Stop}
use Rattle.server_core.specs.declared.step.Reply.{Reply}
use Rattle.server_core.specs.declared.step.StepFault.{StepFault}
use Rattle.server_core.specs.declared.step.StepFault.TheVariants.{Ended, NoMemory}
use Rattle.server_core.specs.Books.{IsShort, IsTellableReply, MayWant}
use Rattle.server_core.specs.States.{ServerState, refusal_after, refusal_of, reply_to, state_after, stop_in}
use Rattle.server_core.specs.Histories.{state_after_all}
use Rattle.server_core.proofs.JournalLemmas.{stop_in-append}
use Rattle.turnstile.specs.Histories.{IsTaken, IsRefused}
use Rattle.shared_book.specs.Entries.{IsEntered, IsEntry, IsUnentered, View}

-- a beginning is no longer than the whole
pub prefix_length : {A : Type 0} (xs ys : List A) → IsPrefix xs ys → length xs ≤ length ys
prefix_length xs ys p = omega (arith, sym (ap length p.1) ∙ length-append xs p.0)

pub prefix_self : {A : Type 0} (xs : List A) → IsPrefix xs xs
prefix_self [] = ([], refl)
prefix_self (x ∷ xs) = (let rest = prefix_self xs in (rest.0, ap (λ ys. x ∷ ys) rest.1))

pub prefix_trans : {A : Type 0} (xs ys zs : List A) → IsPrefix xs ys → IsPrefix ys zs → IsPrefix xs zs
prefix_trans xs ys zs p q = (p.0 ++ q.0, sym (append_assoc xs p.0 q.0) ∙ (ap (λ w. w ++ q.0) p.1 ∙ q.1))

-- a call that took an operation entered it
pub IsEntered-taken : (opening : ServerState) (old : View) (op : Op) (place : ℕ) (reply : Reply) (new : View)
    → IsTaken state_after reply_to (λ s journal op. refusal_of journal s.stamp op) (λ reply. IsShort reply × IsTellableReply reply) opening old op place reply new
    → IsEntered opening old op place reply new
IsEntered-taken opening old op place reply new t =
    let long : length new.front ≡ length t.before + 1 = ap length t.seen ∙ length-append t.before (op ∷ []) in
    let few = prefix_length old.front t.before t.begins in
    record {
      entry = record { before = t.before; after = []; whole = t.seen; placed = t.placed; unrefused = t.open_; answered = t.answered };
      longer = prefix_trans old.front t.before new.front t.begins (op ∷ [], sym t.seen);
      later = omega (arith, few, t.placed);
      last = omega (arith, long, t.placed);
      counted = t.counted;
      short = t.fitting.0;
      tellable = t.fitting.1;
    }

-- a call that was refused entered nothing
pub IsUnentered-refused : (opening : ServerState) (old : View) (op : Op) (place : ℕ) (fault : StepFault) (new : View)
    → IsRefused state_after (λ s journal op. refusal_of journal s.stamp op) MayWant NoMemory opening old op place fault new
    → IsUnentered opening old op fault new
IsUnentered-refused opening old op place fault new r = record { longer = r.begins; why = by_why r.why; own_kept = r.own_kept } where
  by_why : (refusal_of new.front (state_after_all opening new.front).stamp op ≡ Some fault)
      ⊎ ((fault ≡ NoMemory) × MayWant (state_after_all opening new.front) op × (refusal_of new.front (state_after_all opening new.front).stamp op ≡ None))
      → (refusal_of new.front (state_after_all opening new.front).stamp op ≡ Some fault)
      ⊎ ((fault ≡ NoMemory) × MayWant (state_after_all opening new.front) op)
  by_why (inl is) = inl is
  by_why (inr (same, may, is)) = inr (same, may)

-- an entry stands in each longer history, after the same operations
abbrev pub IsEntry-longer : (opening : ServerState) (front history : List Op) (place : ℕ) (op : Op) (reply : Reply)
    → IsPrefix front history → IsEntry opening front place op reply → IsEntry opening history place op reply
IsEntry-longer opening front history place op reply p e = record {
  before = e.before;
  after = e.after ++ p.0;
  whole = sym p.1 ∙ ap (λ w. w ++ p.0) e.whole ∙ append_assoc e.before (op ∷ e.after) p.0;
  placed = e.placed;
  unrefused = e.unrefused;
  answered = e.answered;
}

-- why a stop is refused: one stands
refused_stop : (stop : Option Stop) (journal : List Op) (stamp : ℕ) (asked : Stop) (fault : StepFault)
    → refusal_after stop journal stamp (Stops asked) ≡ Some fault → (stood : Stop) × (fault ≡ Ended stood) × (stop ≡ Some stood)
refused_stop (Some stop) journal stamp asked fault is = (stop, cc is, refl)
refused_stop None journal stamp asked fault is = absurd (cc is)

-- a stop that is refused met the one that stands
pub stop-refused : (opening : ServerState) (old : View) (asked : Stop) (fault : StepFault) (new : View)
    → IsUnentered opening old (Stops asked) fault new → (stood : Stop) × (fault ≡ Ended stood) × (stop_in new.front ≡ Some stood)
stop-refused opening old asked fault new r = by_why r.why where
  by_why : (refusal_of new.front (state_after_all opening new.front).stamp (Stops asked) ≡ Some fault) ⊎ ((fault ≡ NoMemory) × ⊥)
      → (stood : Stop) × (fault ≡ Ended stood) × (stop_in new.front ≡ Some stood)
  by_why (inl is) = refused_stop (stop_in new.front) new.front (state_after_all opening new.front).stamp asked fault is
  by_why (inr (same, never)) = absurd never

-- a stop that is not refused is the first
unrefused_stop : (stop : Option Stop) (journal : List Op) (stamp : ℕ) (asked : Stop) → refusal_after stop journal stamp (Stops asked) ≡ None → stop ≡ None
unrefused_stop (Some stop) journal stamp asked is = absurd (cc is)
unrefused_stop None journal stamp asked is = refl

-- a stop that was entered is the one that stands
pub stop-entered : (opening : ServerState) (old : View) (asked : Stop) (place : ℕ) (reply : Reply) (new : View)
    → IsEntered opening old (Stops asked) place reply new → stop_in new.front ≡ Some asked
stop-entered opening old asked place reply new e =
    let long : length (e.entry.before ++ Stops asked ∷ e.entry.after) ≡ place + 1 = sym (ap length e.entry.whole) ∙ e.last in
    let none_after : e.entry.after ≡ [] = nothing e.entry.after (omega (arith, long, length-append e.entry.before (Stops asked ∷ e.entry.after), e.entry.placed)) in
    ap stop_in e.entry.whole ∙ ap (λ (after : List Op). stop_in (e.entry.before ++ Stops asked ∷ after)) none_after
    ∙ stop_in-append e.entry.before (Stops asked) (unrefused_stop (stop_in e.entry.before) e.entry.before (state_after_all opening e.entry.before).stamp asked e.entry.unrefused)
  where
    nothing : (ops : List Op) → length ops ≤ 0 → ops ≡ []
    nothing [] few = refl
    nothing (op ∷ ops) few = absurd (omega (arith, few))
