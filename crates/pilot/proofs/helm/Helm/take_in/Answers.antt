use Rattle.std.proofs.Common.{None, refl}
use Rattle.pilot.proofs.StepLemmas.{TakesIn-due, TakesIn-none, TakesIn-same}
use Rattle.pilot.proofs.helm.Helm.take_in.Goals as goal

pub returns-then-hear-clause-takes : goal.returns-then-hear-clause-takes
returns-then-hear-clause-takes g c = λ opening is.
    TakesIn-same opening c.args.keys.now c.args.basis.now c.args.who c.args.at c.args.from.now c.args.bytes.now c.give_record.result _ c.args.self.now c.give_record.new.self c.args.seat.now c.give_record.new.seat
    c.self.view_is
    (TakesIn-due opening c.args.keys.now c.args.basis.now c.args.who c.args.at c.args.from.now c.args.bytes.now c.give_record.result _ _ c.give_record.new.self c.args.seat.now c.give_record.new.seat
    c.if-hear.ensures.heard refl refl (c.give_record.ensures.gives opening is))

pub returns-else-hear-clause-takes : goal.returns-else-hear-clause-takes
returns-else-hear-clause-takes g c = λ opening is.
    TakesIn-same opening c.args.keys.now c.args.basis.now c.args.who c.args.at c.args.from.now c.args.bytes.now None _ c.args.self.now _ c.args.seat.now c.args.seat.now
    c.self.view_is
    (TakesIn-none opening c.args.keys.now c.args.basis.now c.args.who c.args.at c.args.from.now c.args.bytes.now _ _ c.args.seat.now
    c.if-hear.ensures.heard refl refl)
