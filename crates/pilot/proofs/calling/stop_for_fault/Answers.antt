use Rattle.std.proofs.Common.{refl}
use Rattle.pilot.proofs.CallLemmas.{stopped-for_fault}
use Rattle.pilot.proofs.calling.stop_for_fault.Goals as goal

pub returns-clause-called : goal.returns-clause-called
returns-clause-called g c = λ opening is.
    stopped-for_fault opening c.args.who _ c.stop.result c.args.seat.now c.stop.new.seat refl (c.stop.ensures.stopped opening is) (c.stop.ensures.stands opening is)
