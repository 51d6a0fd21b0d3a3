use Rattle.wire.proofs.Sessions.{readied-begins}
use Rattle.wire.proofs.session_laws.a_readied_pilot_is_not_behind.Goals as goal

pub returns : goal.returns
returns g c = readied-begins g.given.opening g.given.pilot g.given.flown g.given.new c.requires
