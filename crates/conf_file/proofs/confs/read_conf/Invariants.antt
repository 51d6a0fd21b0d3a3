use Rattle.std.proofs.Common.{length}
use Rattle.conf_file.proofs.ConfTextLemmas.{AreReadTo}
use Rattle.conf_file.proofs.confs.read_conf.Given as goal

-- the lines that are left mean what the whole means, and are refused where the whole is
abbrev pub invariant-lines : goal.invariant-lines
invariant-lines l = AreReadTo l.text l.lines l.number l.draft

abbrev pub decreases-lines : goal.decreases-lines
decreases-lines l = length l.lines
