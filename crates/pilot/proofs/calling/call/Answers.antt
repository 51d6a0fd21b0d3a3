use Rattle.pilot.proofs.StepLemmas.{Calls-answered}
use Rattle.pilot.specs.Calls.{Calls}
use Rattle.std.proofs.Common.{Option, subst, sym}
use Rattle.server_core.specs.declared.op.Stop.{Stop}
use Rattle.pilot.proofs.calling.call.Goals as goal

pub returns-clause-called : goal.returns-clause-called
returns-clause-called g c = λ opening is.
    subst (λ (stop : Option Stop). Calls opening c.args.who c.args.op stop c.args.seat.now c.enter_or_stop.new.seat) (sym c.stop_met.ensures)
    (Calls-answered (λ entry. entry.0) (λ entry. entry.1) opening c.args.who c.args.op c.enter_or_stop.result c.args.seat.now c.enter_or_stop.new.seat c.requires.pilots
    (c.enter_or_stop.ensures.entered opening is)
    (λ stood ended. c.enter_or_stop.ensures.ended opening stood is ended)
    (λ stood ended. c.enter_or_stop.ensures.stands opening stood is ended)
    (c.enter_or_stop.ensures.lacking opening is))
