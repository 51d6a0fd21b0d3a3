use Rattle.mrulist_coverage.proofs.LowerFacts.{lower-laws}
use Rattle.mrulist_coverage.proofs.StillCalm.{calm-still}
use Rattle.mrulist_coverage.proofs.laws.a_calm_trace_is_still.Goals as goal

pub returns : goal.returns
returns g c = record { still = calm-still lower-laws g.given.t g.given.server g.given.wanted g.given.events g.given.places c.requires.0 c.requires.1.0 c.requires.1.1 }
