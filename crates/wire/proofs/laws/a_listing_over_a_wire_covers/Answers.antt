use Rattle.list_telling.proofs.Told.{answer-told, server-tells}
use Rattle.list_telling.specs.Histories.{telling_of}
use Rattle.mrulist_coverage.proofs.LowerFacts.{lower-laws}
use Rattle.mrulist_coverage.proofs.RunLemmas.{covered-listing}
use Rattle.ntpq_client.specs.Talks.{new_talk}
use Rattle.wire.proofs.Walks.{wire-told}
use Rattle.wire.proofs.laws.a_listing_over_a_wire_covers.Goals as goal
use Rattle.wire.specs.Placing.{places_in}
use Rattle.wire.specs.Wires.{client_events}

pub returns : goal.returns
returns g c =
    let given = g.given in
    let telling = telling_of given.common.salt given.client.ip given.opening given.history in
    let told = wire-told answer-told given.common given.opening given.history given.server given.client c.requires.0 c.requires.1.0 given.acts given.wire
    c.requires.1.1.0 c.requires.1.1.1.0 in
    (covered-listing lower-laws telling (new_talk given.server) given.query (client_events given.wire) (places_in given.client given.acts given.wire)
    (server-tells given.common.salt given.client.ip given.opening given.history c.requires.0) c.requires.1.1.1.1.0 c.requires.1.1.1.1.1 told).covers
