use Rattle.pilot.proofs.PromiseLemmas.{swept_of_flight}
use Rattle.pilot.proofs.laws.silences_are_swept.Goals as goal

pub returns : goal.returns
returns g c = let f = g.flight in swept_of_flight f.keys f.basis f.before f.after f.turns f.last f.end c.requires
