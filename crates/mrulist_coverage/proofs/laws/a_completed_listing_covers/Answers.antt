use Rattle.mrulist_coverage.proofs.LowerFacts.{lower-laws}
use Rattle.mrulist_coverage.proofs.RunLemmas.{covered-listing}
use Rattle.mrulist_coverage.proofs.laws.a_completed_listing_covers.Goals as goal
use Rattle.ntpq_client.specs.Talks.{new_talk}

pub returns : goal.returns
returns g c =
    let listing = covered-listing lower-laws g.given.t (new_talk g.given.server) g.given.query g.given.events g.given.places
    c.requires.0 c.requires.1.0 c.requires.1.1.0 c.requires.1.1.1 in
    record { covers = listing.covers; never_bad = listing.never_bad; never_refused = listing.never_refused }
