use Rattle.pilot.proofs.PromiseLemmas.{numbers_of_flight}
use Rattle.pilot.proofs.laws.numbers_of_records_climb.Goals as goal

pub returns : goal.returns
returns g c = let f = g.flight in numbers_of_flight f.keys f.basis f.before f.after f.turns f.last f.end c.requires
