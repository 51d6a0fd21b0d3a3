use Rattle.std.proofs.Common.{◌-◌, length}
use Rattle.mru_items.specs.declared.pair.TheConstants.{MAX_PAIRS}
use Rattle.mru_items.proofs.PairLemmas.{AreSoFar}
use Rattle.mru_items.proofs.query_reading.pairs_of.Given as goal

abbrev pub invariant-loop-pairs : goal.invariant-loop-pairs
invariant-loop-pairs l = AreSoFar l.origin l.items l.pairs.items

abbrev pub decreases-loop-pairs : goal.decreases-loop-pairs
decreases-loop-pairs l = MAX_PAIRS - length l.pairs.items
