use Rattle.recency.proofs.ArrivalLemmas.{IsClientList-touched}
use Rattle.recency.proofs.laws.touches_keep.Goals as goal

pub returns : goal.returns
returns g c = IsClientList-touched c.args.limits.now g.rows c.args.before c.args.visit.now c.args.stamp c.args.limits.now.depths c.requires.0 c.requires.1
