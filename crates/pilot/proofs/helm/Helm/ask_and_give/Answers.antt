use Rattle.pilot.proofs.StepLemmas.{AsksAt-asked}
use Rattle.pilot.proofs.helm.Helm.ask_and_give.Goals as goal

pub returns-clause-asks : goal.returns-clause-asks
returns-clause-asks g c = λ opening is.
    AsksAt-asked opening c.args.keys.now c.args.basis.now c.args.who c.args.at c.args.peer c.give_record.result c.args.self.now c.ask.new.self c.give_record.new.self c.args.seat.now c.give_record.new.seat
    c.ask.ensures (c.give_record.ensures.gives opening is)
