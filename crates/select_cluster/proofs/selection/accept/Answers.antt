use Rattle.std.proofs.Common.{arith}
use Rattle.select_cluster.proofs.SelectingLemmas.{none_accepted}
use Rattle.select_cluster.proofs.selection.accept.Goals as goal

pub returns-else-count_outside-false_count-clause-none : goal.returns-else-count_outside-false_count-clause-none
returns-else-count_outside-false_count-clause-none c =
    let i = c.in-Some.i in
    let found = c.in-Some.ensures.found in
    none_accepted c.args.candidates.now c.args.false_count i.lo i.hi found.1 found.2 (omega arith)
