use Rattle.recency.proofs.SweepLemmas.{IsClientList-swept}
use Rattle.recency.proofs.laws.sweeps_keep.Goals as goal

pub returns : goal.returns
returns g c = IsClientList-swept c.args.limits.now g.rows c.args.stamp c.args.moment c.requires
