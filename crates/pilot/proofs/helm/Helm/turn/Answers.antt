use Rattle.std.proofs.Common.{◌∙◌, refl}
use Rattle.pilot.proofs.TurnLemmas.{TakesTurn-broken, TakesTurn-whole}
use Rattle.pilot.proofs.helm.Helm.turn.Goals as goal

pub returns-in-Some-clause-turns : goal.returns-in-Some-clause-turns
returns-in-Some-clause-turns g c = λ opening is.
    TakesTurn-broken opening c.args.keys.now c.args.basis.now c.args.who c.now-at.result c.in-Some.stop _ c.args.self.now _ c.do_due.new.self c.args.seat.now c.do_due.new.seat
    c.self.view_is refl refl c.now-at.ensures c.begin.ensures
    (c.in-Some.ensures.does opening is)

pub returns-in-None-clause-turns : goal.returns-in-None-clause-turns
returns-in-None-clause-turns g c = λ opening is.
    TakesTurn-whole opening c.args.keys.now c.args.basis.now c.args.who c.now-at.result c.receive.result _ c.args.self.now _ c.do_due.new.self c.receive.new.self c.args.seat.now c.do_due.new.seat c.receive.new.seat
    c.self.view_is refl refl c.now-at.ensures c.begin.ensures
    (c.in-None.ensures.does opening is)
    (c.receive.ensures.receives opening (c.do_due.ensures.stays.opening_kept ∙ is))
