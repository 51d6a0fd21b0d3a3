use Rattle.std.proofs.Common.{arith}
use Rattle.clock_filter.proofs.EstimateLemmas.{mean_root_is}
use Rattle.clock_filter.proofs.estimates.spread_jitter.Goals as goal

pub returns : goal.returns
returns c = grind (arith, mean_root_is)
