use Rattle.std.proofs.Common.{◌∙◌, refl}
use Rattle.worker.proofs.DidLemmas.{Did-after}
use Rattle.worker.proofs.TurnLemmas.{lacks_none}
use Rattle.worker.proofs.worker.Worker.take_turn.Goals as goal

pub returns-then-self-clause-did : goal.returns-then-self-clause-did
returns-then-self-clause-did g c = λ opening is. (0, lacks_none _, c.serve_carried.ensures.did opening is)

-- a datagram was taken, and then answered
pub returns-in-None-clause-did : goal.returns-in-None-clause-did
returns-in-None-clause-did g c = λ opening is.
    let taken = c.in-None.ensures.held c.args.common.now opening is refl in
    let answered = c.serve_carried-in-None.ensures.did opening (c.receive.ensures.same_seat.opening_kept ∙ is) in
    (0, lacks_none _, Did-after c.args.common.now opening _ _ 0 _ _ _ taken answered.longer answered)
