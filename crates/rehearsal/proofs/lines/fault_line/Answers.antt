use Rattle.std.proofs.Common.{rules}
use Rattle.rehearsal.specs.Lines.{fault_line}
use Rattle.rehearsal.proofs.lines.fault_line.Goals as goal

pub returns-clause-line : goal.returns-clause-line
unfolding fault_line
returns-clause-line c = search rules
