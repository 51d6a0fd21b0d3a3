use Rattle.std.proofs.Common.{length}
use Rattle.mac_keys.proofs.KeyTextLemmas.{AreReadTo}
use Rattle.mac_keys.proofs.key_files.read_keys.Given as goal

-- the lines that are read made the table
abbrev pub invariant-lines : goal.invariant-lines
invariant-lines l = AreReadTo l.text l.lines l.number l.keys

abbrev pub decreases-lines : goal.decreases-lines
decreases-lines l = length l.lines
