use Rattle.std.proofs.Common.{rules}
use Rattle.fixed_time.proofs.TimeLemmas.{IsDiff-diff_of}
use Rattle.fixed_time.proofs.time.diff.Goals as goal

pub returns-clause-difference : goal.returns-clause-difference
returns-clause-difference c = search (rules, IsDiff-diff_of)
