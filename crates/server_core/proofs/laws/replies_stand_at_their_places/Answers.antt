use Rattle.server_core.proofs.HistoryLemmas.{reply_at-place}
use Rattle.server_core.proofs.laws.replies_stand_at_their_places.Goals as goal

pub returns : goal.returns
returns g c = reply_at-place g.place.opening g.place.before g.place.after c.args.op.now
