use Rattle.std.proofs.Common.{rules}
use Rattle.rehearsal.specs.Lines.{first_line}
use Rattle.rehearsal.proofs.lines.first_line.Goals as goal

pub returns-clause-line : goal.returns-clause-line
unfolding first_line
returns-clause-line c = search rules
