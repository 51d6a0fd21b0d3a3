-- What a call says of its caller, from what its steps say.
use Rattle.std.proofs.Common.{◌≡◌, ℕ, ◌⊎◌, List, [], ◌∷◌, ◌++◌, length, Result, Ok, Err, sym, ap, ◌∙◌, subst}
use Rattle.std.specs.Prelude.{Option as Maybe, Some as Known, None as Unknown, IfOk, IfErr}
use mathlib.Core.List.{IsPrefix}
use Rattle.atomic_table.specs.Table.{Me}
use Rattle.atomic_table.specs.Seated.{TableId}
use Rattle.turnstile.specs.declared.seen.Seen.{Seen}
use Rattle.turnstile.specs.declared.seen.Stage.TheVariants.{Waits}
use Rattle.turnstile.specs.Histories.{IsTaken, IsRefused, state_after}
use Rattle.turnstile.specs.Seats.{SeatView}
use Rattle.turnstile.specs.Turns.{HasArrived, at_stage, view_of}
use Rattle.turnstile.proofs.Sums.{prefix_trans}

ok_more : {A B : Type 0} (P Q : A → Type 0) (r : Result A B) → ((a : A) → P a → Q a) → IfOk r P → IfOk r Q
ok_more P Q (Ok a) h k = h a k
ok_more P Q (Err b) h k = tt

err_more : {A B : Type 0} (P Q : B → Type 0) (r : Result A B) → ((b : B) → P b → Q b) → IfErr r P → IfErr r Q
err_more P Q (Ok a) h k = tt
err_more P Q (Err b) h k = h b k

module _ {O P S R F : Type 0} (journal_of : O → List P) (state_of : O → S) (next : S → P → S) (reply_to : S → P → R) (refusal : S → List P → P → Maybe F) (fits : R → Type 0) (lacks : S → P → Type 0) (no_memory : F) where
  abbrev M : Type 0
  M = Me O (Seen P S)

  -- the caller before the call, with its ticket, in its turn, after the object's step, and at the end
  pub record Called (old new : SeatView P S) (before drew came took : M) : Type 0 where
    pub drawn : (n : ℕ) × (drew ≡ (at_stage (Waits n) before.0, []))
    pub arrived : HasArrived journal_of state_of next drew came
    pub front : old.front ≡ before.0.front
    pub opening : old.opening ≡ before.0.opening
    pub own : old.own ≡ before.0.own
    pub new_front : new.front ≡ took.0.front
    pub new_own : new.own ≡ took.0.own

  grew : (old new : SeatView P S) (before drew came took : M) → Called old new before drew came took → IsPrefix old.front came.0.front
  grew old new before drew came took c =
      let same : came.0.front ≡ journal_of c.arrived.object = ap (λ (m : M). m.0.front) c.arrived.now in
      subst (λ (z : List P × List P). IsPrefix z.0 z.1) (λ i. (sym (c.front ∙ sym (ap (λ (m : M). m.0.front) c.drawn.1)) i, sym same i)) c.arrived.grows

  own_kept : (old new : SeatView P S) (before drew came took : M) → Called old new before drew came took → came.0.own ≡ old.own
  own_kept old new before drew came took c = ap (λ (m : M). m.0.own) c.arrived.now ∙ (ap (λ (m : M). m.0.own) c.drawn.1 ∙ sym c.own)

  opened : (old new : SeatView P S) (before drew came took : M) (o : S) → Called old new before drew came took → old.opening ≡ Known o → came.0.opening ≡ Known o
  opened old new before drew came took o c is_open = ap (λ (m : M). m.0.opening) c.arrived.now ∙ (ap (λ (m : M). m.0.opening) c.drawn.1 ∙ (sym c.opening ∙ is_open))

  pub takes : (door : TableId) (old new : SeatView P S) (before drew came took : M) (op : P) (result : Result (ℕ × R) (ℕ × F))
      → Called old new before drew came took
      → ((o : S) → came.0.opening ≡ Known o → IfOk result (λ a. IsTaken next reply_to refusal fits o (view_of door came) op a.0 a.1 (view_of door took)))
      → (o : S) → old.opening ≡ Known o → IfOk result (λ a. IsTaken next reply_to refusal fits o old op a.0 a.1 new)
  takes door old new before drew came took op result c served o is_open =
      ok_more (λ a. IsTaken next reply_to refusal fits o (view_of door came) op a.0 a.1 (view_of door took)) (λ a. IsTaken next reply_to refusal fits o old op a.0 a.1 new) result
      (λ a t. record {
        before = t.before;
        begins = prefix_trans old.front came.0.front t.before (grew old new before drew came took c) t.begins;
        placed = t.placed;
        seen = c.new_front ∙ t.seen;
        open_ = t.open_;
        answered = t.answered;
        fitting = t.fitting;
        counted = c.new_own ∙ (t.counted ∙ ap (λ l. l ++ a.0 ∷ []) (own_kept old new before drew came took c));
      })
      (served o (opened old new before drew came took o c is_open))

  pub refuses : (door : TableId) (old new : SeatView P S) (before drew came took : M) (op : P) (result : Result (ℕ × R) (ℕ × F))
      → Called old new before drew came took
      → ((o : S) → came.0.opening ≡ Known o → IfErr result (λ a. IsRefused next refusal lacks no_memory o (view_of door came) op a.0 a.1 (view_of door took)))
      → (o : S) → old.opening ≡ Known o → IfErr result (λ a. IsRefused next refusal lacks no_memory o old op a.0 a.1 new)
  refuses door old new before drew came took op result c served o is_open =
      err_more (λ a. IsRefused next refusal lacks no_memory o (view_of door came) op a.0 a.1 (view_of door took)) (λ a. IsRefused next refusal lacks no_memory o old op a.0 a.1 new) result
      (λ a t. record {
        begins = subst (IsPrefix old.front) (sym c.new_front) (prefix_trans old.front came.0.front took.0.front (grew old new before drew came took c) t.begins);
        placed = ap length c.new_front ∙ t.placed;
        why = subst (λ l. (refusal (state_after next o l) l op ≡ Known a.1) ⊎ ((a.1 ≡ no_memory) × lacks (state_after next o l) op × (refusal (state_after next o l) l op ≡ Unknown))) (sym c.new_front) t.why;
        own_kept = c.new_own ∙ (t.own_kept ∙ own_kept old new before drew came took c);
      })
      (served o (opened old new before drew came took o c is_open))
