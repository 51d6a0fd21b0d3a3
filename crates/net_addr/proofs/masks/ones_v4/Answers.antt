use Rattle.std.proofs.Common.{arith}
use Rattle.net_addr.proofs.NumberLemmas.{mask_number}
use Rattle.net_addr.proofs.masks.ones_v4.Goals as goal

pub returns : goal.returns
returns c = omega (arith, mask_number 32 c.args.length c.requires)
