use Rattle.std.proofs.Common.{◌<◌, ◌-◌, ◌^◌, arith}
use Rattle.std.proofs.Math.Pow.{pow-lt}
use Rattle.net_addr.proofs.NumberLemmas.{mask_number}
use Rattle.net_addr.proofs.masks.ones_v6.Goals as goal

pub returns : goal.returns
returns c =
    let fewer : 2 ^ (128 - c.args.length) < 2 ^ 128 = pow-lt {i = 128 - c.args.length} {j = 128} (omega arith) in
    omega (arith, mask_number 128 c.args.length c.requires)
