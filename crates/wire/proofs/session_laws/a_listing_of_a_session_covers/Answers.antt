use Rattle.wire.proofs.Covered.{listing-covered, workers-at}
use Rattle.wire.proofs.Sessions.{sessions-history}
use Rattle.wire.proofs.session_laws.a_listing_of_a_session_covers.Goals as goal

pub returns : goal.returns
returns g c =
    let given = g.given in
    let s = given.session in
    let premises = c.requires in
    let of_wire = premises.1.1.1 in
    λ is happened.
    let history = sessions-history s.common s.opening s.history s.parts s.flown premises.0 premises.1.0 premises.1.1.0 is in
    let workers = workers-at s.common s.opening s.history given.number s.parts is.worked given.part given.wire of_wire.1.0 happened in
    (listing-covered s.common s.opening s.history given.server given.client given.query given.part given.wire history of_wire.0 workers of_wire.1.1.0 of_wire.1.1.1.0 of_wire.1.1.1.1).covers
