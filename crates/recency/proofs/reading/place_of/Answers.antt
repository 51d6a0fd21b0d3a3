use Rattle.std.proofs.Common.{◌∙◌, sym, arith}
use Rattle.recency.proofs.PlaceLemmas.{place_of-is, place_of-end}
use Rattle.recency.proofs.reading.place_of.Goals as goal

pub returns-then-is_same_ip-clause-place : goal.returns-then-is_same_ip-clause-place
returns-then-is_same_ip-clause-place g c =
    place_of-is c.args.rows.now c.args.ip.now c.loop-place.place _ c.loop-place.auto.place-end c.loop-place.invariant.before (λ _. sym c.is_same_ip.ensures.value ∙ c.if-is_same_ip.true)

pub returns-clause-place : goal.returns-clause-place
returns-clause-place g c =
    place_of-end c.args.rows.now c.args.ip.now (λ k d less. c.loop-place.invariant.before k d (omega (arith, c.loop-place-test.false, less)))
