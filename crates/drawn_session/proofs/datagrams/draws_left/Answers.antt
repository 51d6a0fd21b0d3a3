use Rattle.std.proofs.Common.{◌+◌, ◌-◌, sym, ap, ◌∙◌, arith}
use Rattle.drawn_session.specs.Datagrams.{state_behind}
use Rattle.drawn_session.specs.declared.datagrams.TheConstants.{DATAGRAMS}
use Rattle.drawn_session.proofs.DrawLemmas.{state_behind-end, state_behind-next}
use Rattle.drawn_session.proofs.datagrams.draws_left.Goals as goal

pub loop-place-preserved : goal.loop-place-preserved
loop-place-preserved c =
    ap (state_behind (DATAGRAMS - (c.loop-place.place + 1))) c.next_datagram-datagram.ensures.state
    ∙ sym (state_behind-next DATAGRAMS c.loop-place.place c.loop-place.draws c.loop-place-test.true)
    ∙ c.loop-place.invariant

pub returns : goal.returns
returns c = sym (state_behind-end DATAGRAMS c.loop-place.place c.loop-place.draws (λ below. omega (arith, below, c.loop-place-test.false))) ∙ c.loop-place.invariant
