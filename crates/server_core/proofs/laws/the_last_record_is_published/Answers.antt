use Rattle.server_core.proofs.HistoryLemmas.{published_by-last}
use Rattle.server_core.proofs.laws.the_last_record_is_published.Goals as goal

pub returns : goal.returns
returns g c = published_by-last c.args.opening.now g.ops
