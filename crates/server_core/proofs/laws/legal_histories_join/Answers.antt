use Rattle.server_core.proofs.HistoryLemmas.{IsLegal-append}
use Rattle.server_core.proofs.laws.legal_histories_join.Goals as goal

pub returns : goal.returns
returns g c = IsLegal-append g.place.opening g.place.before g.place.after c.requires.0 c.requires.1
