use Rattle.std.proofs.Common.{length}
use Rattle.ntpq_tool.proofs.words.+append_names.Given as goal

abbrev pub decreases-append_names : goal.decreases-append_names
decreases-append_names l = length l.words.now
