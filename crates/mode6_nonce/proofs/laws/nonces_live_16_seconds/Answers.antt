use Rattle.std.proofs.Common.{◌+◌, ◌%◌, ◌^◌}
use Rattle.mode6_nonce.proofs.LifetimeLemmas.{alive_later, good_made}
use Rattle.mode6_nonce.proofs.laws.nonces_live_16_seconds.Goals as goal

pub returns : goal.returns
returns c =
    let fits = c.ranges.time.fits in
    let made = good_made c.args.salt.now c.args.ip.now c.args.time ((c.args.time + c.args.later) % 2 ^ 64) fits in
    let alive = alive_later c.args.time c.args.later fits c.ranges.later.fits in
    (λ good. alive.0 (made.0 good), λ soon. made.1 (alive.1 soon))
