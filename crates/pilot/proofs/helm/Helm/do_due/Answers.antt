use Rattle.std.proofs.Common.{◌∙◌}
use Rattle.pilot.proofs.GainLemmas.{Stays-none, Stays-then}
use Rattle.pilot.proofs.TurnLemmas.{DoesDeeds-more, DoesDeeds-none, DoesDue-refused}
use Rattle.pilot.proofs.helm.Helm.do_due.Goals as goal

pub doing-init : goal.doing-init
doing-init g c = record {
  does = λ opening is. DoesDeeds-none opening c.args.keys.now c.args.basis.now c.args.who c.args.at c.args.self.now c.args.seat.now;
  stays = Stays-none c.args.self.now c.args.seat.now;
}

pub doing-preserved : goal.doing-preserved
doing-preserved g c = record {
  does = λ opening is. DoesDeeds-more opening c.args.keys.now c.args.basis.now c.args.who c.args.at c.args.self.now c.doing.self c.do_first.new.self c.args.seat.now c.doing.seat c.do_first.new.seat
      (c.doing.invariant.does opening is) (c.in-Done.ensures.does opening (c.doing.invariant.stays.opening_kept ∙ is));
  stays = Stays-then c.args.self.now c.doing.self c.do_first.new.self c.args.seat.now c.doing.seat c.do_first.new.seat c.doing.invariant.stays c.do_first.ensures.stays;
}

pub returns-in-Refused-clause-does : goal.returns-in-Refused-clause-does
returns-in-Refused-clause-does g c = λ opening is.
    DoesDue-refused opening c.args.keys.now c.args.basis.now c.args.who c.args.at c.in-Refused.stop c.args.self.now c.doing.self c.do_first.new.self c.args.seat.now c.doing.seat c.do_first.new.seat
    (c.doing.invariant.does opening is) (c.in-Refused.ensures.does opening (c.doing.invariant.stays.opening_kept ∙ is))
