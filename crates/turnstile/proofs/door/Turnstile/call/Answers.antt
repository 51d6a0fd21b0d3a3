use Rattle.std.proofs.Common.{sym, ap}
use Rattle.turnstile.proofs.Calls.{takes, refuses}
use Rattle.turnstile.proofs.door.Turnstile.call.Goals as goal

pub returns-clause-taken : goal.returns-clause-taken
returns-clause-taken g c = takes g.O.Object.journal g.O.Object.state _ _ _ _ g.O.Object.lacks g.O.Object.no_memory _ _ _ c.seat.inside.inner.me c.draw-ticket.new.inner.me c.await_turn.new.inner.me c.serve-answer.new.inner.me _ _ record {
  drawn = c.draw-ticket.ensures.drawn;
  arrived = c.await_turn.ensures.arrived;
  front = ap (λ v. v.front) (sym c.seat.view_is);
  opening = ap (λ v. v.opening) (sym c.seat.view_is);
  own = ap (λ v. v.own) (sym c.seat.view_is);
  new_front = ap (λ m. m.0.front) c.pass_on.ensures.passed;
  new_own = ap (λ m. m.0.own) c.pass_on.ensures.passed;
} c.serve-answer.ensures.taken

pub returns-clause-refused : goal.returns-clause-refused
returns-clause-refused g c = refuses g.O.Object.journal g.O.Object.state _ g.O.Object.reply_to _ g.O.Object.fits _ _ _ _ _ c.seat.inside.inner.me c.draw-ticket.new.inner.me c.await_turn.new.inner.me c.serve-answer.new.inner.me _ _ record {
  drawn = c.draw-ticket.ensures.drawn;
  arrived = c.await_turn.ensures.arrived;
  front = ap (λ v. v.front) (sym c.seat.view_is);
  opening = ap (λ v. v.opening) (sym c.seat.view_is);
  own = ap (λ v. v.own) (sym c.seat.view_is);
  new_front = ap (λ m. m.0.front) c.pass_on.ensures.passed;
  new_own = ap (λ m. m.0.own) c.pass_on.ensures.passed;
} c.serve-answer.ensures.refused
