use Rattle.pilot.proofs.PromiseLemmas.{publications_of_flight}
use Rattle.pilot.proofs.laws.publications_are_the_records_that_stand.Goals as goal

pub returns : goal.returns
returns g c = let f = g.flight in publications_of_flight f.keys f.basis f.before f.after f.turns f.last f.end c.requires
