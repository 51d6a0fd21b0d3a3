use Rattle.list_telling.proofs.Told.{server-tells}
use Rattle.list_telling.proofs.laws.a_server_tells.Goals as goal

pub returns : goal.returns
returns g c = server-tells c.args.salt c.args.client g.given.opening g.given.ops c.requires
