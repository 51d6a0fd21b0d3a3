use Rattle.std.proofs.Common.{refl}
use Rattle.pilot.proofs.StepLemmas.{DoesFirst-asks, DoesFirst-tick}
use Rattle.pilot.proofs.helm.Helm.do_first.Goals as goal

pub returns-then-key-eq-TICK_KEY-clause-does : goal.returns-then-key-eq-TICK_KEY-clause-does
returns-then-key-eq-TICK_KEY-clause-does g c = λ opening is.
    DoesFirst-tick opening c.args.keys.now c.args.basis.now c.args.who c.args.at c.in-Some.key c.tick_and_give.result c.done.result c.take_due.new.self _ c.args.self.now _ c.tick_and_give.new.self c.args.seat.now c.tick_and_give.new.seat
    c.self.view_is c.done.ensures c.if-key-eq-TICK_KEY.true c.in-Some.ensures.first c.in-Some.ensures.after refl refl refl
    (c.tick_and_give.ensures.gives opening is)

pub returns-else-key-eq-TICK_KEY-clause-does : goal.returns-else-key-eq-TICK_KEY-clause-does
returns-else-key-eq-TICK_KEY-clause-does g c = λ opening is.
    DoesFirst-asks opening c.args.keys.now c.args.basis.now c.args.who c.args.at c.in-Some.key c.ask_and_give.result c.done-else-key-eq-TICK_KEY.result c.take_due.new.self _ c.args.self.now _ c.ask_and_give.new.self c.args.seat.now c.ask_and_give.new.seat
    c.self.view_is c.done-else-key-eq-TICK_KEY.ensures c.in-Some.ensures.first c.in-Some.ensures.after refl refl refl
    (c.ask_and_give.ensures.asks opening is)
