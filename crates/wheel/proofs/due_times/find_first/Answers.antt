use Rattle.std.proofs.Common.{None}
use Rattle.std.proofs.lemmas.List.{get_or_default}
use Rattle.wheel.proofs.PassingLemmas.{first_more}
use Rattle.wheel.proofs.due_times.find_first.Goals as goal

pub loop-key-preserved : goal.loop-key-preserved
loop-key-preserved c =
    rw c.earlier-first.ensures
    (first_more c.args.due.now c.args.now c.loop-key.key c.loop-key.first _ (get_or_default c.args.due.now c.loop-key.key None _ c.loop-key-test.true) c.loop-key.invariant)
