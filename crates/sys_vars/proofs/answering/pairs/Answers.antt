use Rattle.std.proofs.Common.{arith}
use Rattle.sys_vars.specs.Answers.{status_pair}
use Rattle.sys_vars.proofs.TextLemmas.{flat_map-step}
use Rattle.sys_vars.proofs.answering.pairs.Goals as goal

pub loop-place-preserved : goal.loop-place-preserved
loop-place-preserved c = (
  flat_map-step status_pair c.args.peers.now c.loop-place.place c.get.result.now c.loop-place.octets _
      c.loop-place.invariant.0 (omega (arith, c.loop-place-test.true, c.len-place-end.ensures.len)) c.get.ensures.view c.put_pair.ensures.value,
  omega (arith, c.put_pair.ensures.longer, c.loop-place.invariant.1),
)
