use Rattle.std.proofs.Common.{rules}
use Rattle.ntpd_serve.specs.Ending.{line_of}
use Rattle.ntpd_serve.proofs.report.line_of.Goals as goal

pub returns-clause-line : goal.returns-clause-line
unfolding line_of
returns-clause-line c = search rules
