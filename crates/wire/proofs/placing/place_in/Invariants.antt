use Rattle.std.proofs.Common.{◌≡◌, drop}
use Rattle.wire.specs.Kept.{offers_of}
use Rattle.wire.specs.Placing.{place_in}
use Rattle.wire.proofs.placing.place_in.Given as goal

abbrev pub invariant-loop-offer : goal.invariant-loop-offer
invariant-loop-offer l = place_in (offers_of (drop l.offer-index l.offers)) l.octets ≡ place_in (offers_of l.offers) l.octets
