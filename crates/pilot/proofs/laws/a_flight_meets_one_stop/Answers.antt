use Rattle.pilot.proofs.PromiseLemmas.{causes_of_flight}
use Rattle.pilot.proofs.laws.a_flight_meets_one_stop.Goals as goal

pub returns : goal.returns
returns g c = let f = g.flight in causes_of_flight f.keys f.basis f.before f.after f.turns f.last f.end c.requires
