use Rattle.std.proofs.Common.{arith}
use Rattle.mac_keys.proofs.ComparisonLemmas.{gathered_more}
use Rattle.mac_keys.proofs.comparing.is_same.Goals as goal

pub loop-i-preserved : goal.loop-i-preserved
loop-i-preserved c =
    gathered_more _ _ _ _ (omega arith) (omega arith) c.loop-i.invariant
