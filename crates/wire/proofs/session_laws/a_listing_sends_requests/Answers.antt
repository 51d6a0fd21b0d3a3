use Rattle.wire.proofs.Listings.{listing-sends}
use Rattle.wire.proofs.session_laws.a_listing_sends_requests.Goals as goal

pub returns : goal.returns
returns g c =
    listing-sends g.given.server g.given.query g.given.origin g.given.events c.requires.0 c.requires.1.0 c.requires.1.1
