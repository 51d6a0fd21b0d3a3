-- What the first seat knows, and what is left of the others.
use Rattle.std.proofs.Common.{◌≡◌, ◌+◌, ℕ, List}
use Rattle.std.specs.List.{All}
use mathlib.Core.List.{IsPrefix}
use Rattle.turnstile.specs.Histories.{times, times_of_all, shares_of}
use Rattle.turnstile.specs.Turns.{IsReady, AreFronts}
use Rattle.turnstile.proofs.door.Turnstile.gather.Given as goal

abbrev pub invariant-loop-seat : goal.invariant-loop-seat
invariant-loop-seat g l = record {
  table : l.inner.table_id ≡ l.initial.inner.table_id;
  ready : IsReady l.inner.me;
  all_own : All (λ seat. seat.door ≡ l.self) l.rest.items;
  shares : l.inner.me.0.share + shares_of l.rest.items ≡ l.initial.inner.me.0.share + shares_of l.initial.rest.items;
  opening : l.inner.me.0.opening ≡ l.initial.inner.me.0.opening;
  front : l.inner.me.0.front ≡ l.initial.inner.me.0.front;
  fronts : (history : List g.row.O-Op.Denot) → AreFronts history l.inner.me.0.heard
      → All (λ seat. IsPrefix seat.front history) l.rest.items → All (λ seat. IsPrefix seat.front history) l.initial.rest.items;
  calls : (place : ℕ) → times place l.inner.me.0.own + times_of_all place l.rest.items
      ≡ times place l.initial.inner.me.0.own + times_of_all place l.initial.rest.items;
}

abbrev pub decreases-loop-seat : goal.decreases-loop-seat
decreases-loop-seat g l = goal.left-loop-seat g l
