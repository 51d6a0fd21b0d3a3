use Rattle.server_core.proofs.StateLemmas.{ignored_arrival}
use Rattle.server_core.proofs.laws.ignored_clients_change_nothing.Goals as goal

pub returns : goal.returns
returns g c = ignored_arrival g.server c.args.ask.now c.args.moment c.requires
