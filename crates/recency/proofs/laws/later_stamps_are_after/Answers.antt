use Rattle.recency.proofs.ArrivalLemmas.{AreBefore-later}
use Rattle.recency.proofs.laws.later_stamps_are_after.Goals as goal

pub returns : goal.returns
returns g c = AreBefore-later c.args.before c.args.stamp g.rows c.requires.1 c.requires.0.up_to
