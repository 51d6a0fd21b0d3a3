use Rattle.std.proofs.Common.{rules}
use Rattle.fixed_time.proofs.TimeLemmas.{IsShifted-shifted}
use Rattle.fixed_time.proofs.time.add_span.Goals as goal

pub returns-clause-sum : goal.returns-clause-sum
returns-clause-sum c = search (rules, IsShifted-shifted)
