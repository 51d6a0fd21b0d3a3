use Rattle.std.proofs.Common.{rules}
use Rattle.rehearsal.specs.Lines.{listing_line}
use Rattle.rehearsal.proofs.lines.listing_line.Goals as goal

pub returns-clause-line : goal.returns-clause-line
unfolding listing_line
returns-clause-line c = search rules
