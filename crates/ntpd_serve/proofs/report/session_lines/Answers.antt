use Rattle.std.proofs.Common.{rules}
use Rattle.ntpd_serve.specs.Sessions.{session_lines}
use Rattle.ntpd_serve.proofs.report.session_lines.Goals as goal

pub returns : goal.returns
unfolding session_lines
returns c = search rules
