-- The seats that are joined to the first, one after another from the last.
use Rattle.std.proofs.Common.{◌≡◌, ℕ, ◌+◌, List, [], ◌∷◌, ◌++◌, sym, ap, ◌∙◌, subst, arith}
use Rattle.std.specs.List.{All}
use Rattle.std.proofs.lemmas.List.Elements.{All-push, All-same}
use mathlib.Core.List.{IsPrefix}
use Rattle.atomic_table.specs.Table.{Me}
use Rattle.turnstile.specs.declared.seen.Seen.{Seen}
use Rattle.turnstile.specs.Histories.{times, times_of_all, shares_of}
use Rattle.turnstile.specs.Seats.{SeatView}
use Rattle.turnstile.specs.Turns.{AreFronts, IsReady, both_of}
use Rattle.turnstile.proofs.Sums.{fronts_first, times_append}

module _ {P S : Type 0} where
  shares_snoc : (xs : List (SeatView P S)) (x : SeatView P S) → shares_of (xs ++ x ∷ []) ≡ shares_of xs + x.share
  shares_snoc [] x = omega arith
  shares_snoc (y ∷ ys) x = omega (arith, shares_snoc ys x)

  times_snoc : (place : ℕ) (xs : List (SeatView P S)) (x : SeatView P S) → times_of_all place (xs ++ x ∷ []) ≡ times_of_all place xs + times place x.own
  times_snoc place [] x = omega arith
  times_snoc place (y ∷ ys) x = omega (arith, times_snoc place ys x)

-- the first seat before and after a seat is joined to it, which was the last of all
pub record Joined {O P S : Type 0} (old new : Me O (Seen P S)) (all left : List (SeatView P S)) : Type 0 where
  pub seat : SeatView P S
  pub other : Seen P S
  pub popped : all ≡ left ++ seat ∷ []
  pub share : seat.share ≡ other.share
  pub front : seat.front ≡ other.front
  pub own : seat.own ≡ other.own
  pub now : new ≡ (both_of old.0 other, old.1)

module _ {O P S : Type 0} (old new : Me O (Seen P S)) (all left : List (SeatView P S)) (j : Joined old new all left) where
  abbrev M : Type 0
  M = Me O (Seen P S)

  pub still_ready : IsReady old → IsReady new
  still_ready r = let share = ap (λ (m : M). m.0.share) j.now in let some = r.some_share in record {
    is_out = ap (λ (m : M). m.0.stage) j.now ∙ r.is_out;
    has_none = ap (λ (m : M). m.1) j.now ∙ r.has_none;
    some_share = omega arith;
  }

  pub same_opening : new.0.opening ≡ old.0.opening
  same_opening = ap (λ (m : M). m.0.opening) j.now

  pub same_front : new.0.front ≡ old.0.front
  same_front = ap (λ (m : M). m.0.front) j.now

  pub shares_kept : new.0.share + shares_of left ≡ old.0.share + shares_of all
  shares_kept = let a = ap (λ (m : M). m.0.share) j.now in let b = ap shares_of j.popped ∙ shares_snoc left j.seat in let c = j.share in omega arith

  pub times_kept : (place : ℕ) → times place new.0.own + times_of_all place left ≡ times place old.0.own + times_of_all place all
  times_kept place =
      let a = ap (λ (m : M). times place m.0.own) j.now ∙ times_append place old.0.own j.other.own in
      let b = ap (times_of_all place) j.popped ∙ times_snoc place left j.seat in let c = ap (times place) j.own in omega arith

  -- what is a front of each that is left, and of this one, is one of all
  pub fronts_of : (history : List P) → AreFronts history new.0.heard → All (λ s. IsPrefix s.front history) left
      → AreFronts history old.0.heard × All (λ s. IsPrefix s.front history) all
  fronts_of history heard others =
      let fronts = subst (AreFronts history) (ap (λ (m : M). m.0.heard) j.now) heard in
      let front = subst (λ l. IsPrefix l history) (sym j.front) fronts.0 in (
        (fronts_first history j.other.heard old.0.heard fronts.1).1,
        All-same (λ s. IsPrefix s.front history) all (left ++ j.seat ∷ []) j.popped (All-push (λ s. IsPrefix s.front history) left j.seat others front),
      )
