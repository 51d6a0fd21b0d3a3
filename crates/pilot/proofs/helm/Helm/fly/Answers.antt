use Rattle.std.proofs.Common.{◌∙◌}
use Rattle.pilot.proofs.GainLemmas.{Stays-none, Stays-then}
use Rattle.pilot.proofs.TurnLemmas.{IsFlight-ended, TakesTurns-more, TakesTurns-none}
use Rattle.pilot.proofs.helm.Helm.fly.Goals as goal

pub flying-init : goal.flying-init
flying-init g c = record {
  turns = λ opening is. TakesTurns-none opening c.args.keys.now c.args.basis.now c.args.who c.args.self.now c.args.seat.now;
  stays = Stays-none c.args.self.now c.args.seat.now;
}

pub flying-preserved : goal.flying-preserved
flying-preserved g c = record {
  turns = λ opening is. TakesTurns-more opening c.args.keys.now c.args.basis.now c.args.who c.args.self.now c.flying.self c.turn.new.self c.args.seat.now c.flying.seat c.turn.new.seat
      (c.flying.invariant.turns opening is) (c.in-None-turn.ensures.turns opening (c.flying.invariant.stays.opening_kept ∙ is));
  stays = Stays-then c.args.self.now c.flying.self c.turn.new.self c.args.seat.now c.flying.seat c.turn.new.seat c.flying.invariant.stays c.turn.ensures.stays;
}

pub returns-in-Some-turn-clause-flew : goal.returns-in-Some-turn-clause-flew
returns-in-Some-turn-clause-flew g c = λ opening is.
    IsFlight-ended opening c.args.keys.now c.args.basis.now c.args.who c.in-Some-turn.end c.args.self.now c.flying.self c.turn.new.self c.args.seat.now c.flying.seat c.turn.new.seat
    (c.flying.invariant.turns opening is) (c.in-Some-turn.ensures.turns opening (c.flying.invariant.stays.opening_kept ∙ is))
