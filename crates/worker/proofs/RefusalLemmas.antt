-- Why a call is refused, and what stands before what it enters.
use Rattle.std.proofs.Common.{◌≡◌, ◌⊎◌, ℕ, ◌-◌, ◌^◌, nat_le, ◌&&◌, not, Bool, true, false, if◌then◌else◌, Option, Some, None, List, ◌∷◌, length, sym, inl, inr, arith}
use mathlib.Core.List.{IsPrefix}
use Rattle.server_core.specs.declared.op.Op.{Op}
use Rattle.server_core.specs.declared.op.Stop.{Stop}
use Rattle.server_core.specs.declared.op.Why.{Why}
use Rattle.server_core.specs.declared.op.Why.TheVariants.{Entries, Publications}
use Rattle.server_core.specs.declared.step.Reply.{Reply}
use Rattle.server_core.specs.declared.step.StepFault.TheVariants.{Full, ClockEnd as AtClockEnd, NoMemory}
use Rattle.server_core.specs.States.{ServerState, is_publish, is_stop, may_draw, publications_in, refusal_after, refusal_of, stop_in}
use Rattle.server_core.specs.declared.op.TheConstants.{MAX_ENTRIES, MAX_PUBLICATIONS}
use Rattle.shared_book.specs.Entries.{IsEntered, View}
use Rattle.worker.proofs.AddingLemmas.{prefix_shorter}

-- what the caller had seen stands before what it enters
pub entered_before : (opening : ServerState) (old new : View) (op : Op) (place : ℕ) (reply : Reply) → (is : IsEntered opening old op place reply new) → IsPrefix old.front is.entry.before
entered_before opening old new op place reply is =
    prefix_shorter old.front is.entry.before new.front is.longer (op ∷ is.entry.after, sym is.entry.whole)
    (omega (arith, is.later, is.entry.placed))

-- the limits refuse for no other reason
full-limit : (a b c : Bool) (why : Why) → (if a then Some (Full Entries) else (if b then Some (Full Publications) else (if c then Some AtClockEnd else None))) ≡ Some (Full why) → (why ≡ Entries) ⊎ (why ≡ Publications)
full-limit true b c why same = inl (cc)
full-limit false true c why same = inr (cc)
full-limit false false true why same = absurd (cc same)
full-limit false false false why same = absurd (cc same)

full-after : (found : Option Stop) (journal : List Op) (stamp : ℕ) (op : Op) (why : Why) → refusal_after found journal stamp op ≡ Some (Full why) → (why ≡ Entries) ⊎ (why ≡ Publications)
full-after (Some stop) journal stamp op why same = absurd (cc same)
full-after None journal stamp op why same =
    full-limit (not (is_stop op) && nat_le MAX_ENTRIES (length journal)) (is_publish op && nat_le MAX_PUBLICATIONS (publications_in journal)) (may_draw op && nat_le (2 ^ 64 - 1) stamp) why same

-- what is full is the journal's operations, or its publications
pub full-refusal : (journal : List Op) (stamp : ℕ) (op : Op) (why : Why) → refusal_of journal stamp op ≡ Some (Full why) → (why ≡ Entries) ⊎ (why ≡ Publications)
full-refusal journal stamp op why same = full-after (stop_in journal) journal stamp op why same

never-limit : (a b c : Bool) → (if a then Some (Full Entries) else (if b then Some (Full Publications) else (if c then Some AtClockEnd else None))) ≡ Some NoMemory → ⊥
never-limit true b c same = absurd (cc same)
never-limit false true c same = absurd (cc same)
never-limit false false true same = absurd (cc same)
never-limit false false false same = absurd (cc same)

never-after : (found : Option Stop) (journal : List Op) (stamp : ℕ) (op : Op) → refusal_after found journal stamp op ≡ Some NoMemory → ⊥
never-after (Some stop) journal stamp op same = absurd (cc same)
never-after None journal stamp op same =
    never-limit (not (is_stop op) && nat_le MAX_ENTRIES (length journal)) (is_publish op && nat_le MAX_PUBLICATIONS (publications_in journal)) (may_draw op && nat_le (2 ^ 64 - 1) stamp) same

-- no operation is refused for want of memory whatever the memory
pub never-refusal : (journal : List Op) (stamp : ℕ) (op : Op) → refusal_of journal stamp op ≡ Some NoMemory → ⊥
never-refusal journal stamp op same = never-after (stop_in journal) journal stamp op same
