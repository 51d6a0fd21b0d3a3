use Rattle.recency.proofs.RowLemmas.{IsClientList-told}
use Rattle.recency.proofs.laws.tellings_keep.Goals as goal

pub returns : goal.returns
returns g c = IsClientList-told c.args.limits.now g.rows c.args.stamp c.args.ip.now c.args.told c.requires
