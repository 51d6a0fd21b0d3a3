use Rattle.std.proofs.Common.{arith}
use Rattle.mode6_nonce.proofs.NonceLemmas.{nonce_of-time}
use Rattle.mode6_nonce.proofs.laws.times_are_told_apart.Goals as goal

pub returns : goal.returns
returns c =
    nonce_of-time c.args.salt.now c.args.other_salt.now c.args.ip.now c.args.other_ip.now c.args.time c.args.other
    (omega (arith, c.ranges.time)) (omega (arith, c.ranges.other)) c.requires
