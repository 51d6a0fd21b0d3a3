use Rattle.mrulist_coverage.proofs.LowerFacts.{lower-laws, names-four}
use Rattle.mrulist_coverage.proofs.StillRuns.{still-listing}
use Rattle.mrulist_coverage.proofs.laws.a_still_listing_completes.Goals as goal

pub returns : goal.returns
returns g c =
    let ends = still-listing lower-laws names-four g.given.t g.given.server g.given.query g.given.events g.given.places
    c.requires.0 c.requires.1.0 c.requires.1.1.0 c.requires.1.1.1.0 c.requires.1.1.1.1 in
    record { unstuck = ends.unstuck; few = ends.few; complete = ends.complete }
