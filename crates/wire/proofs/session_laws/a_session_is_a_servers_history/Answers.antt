use Rattle.wire.proofs.Sessions.{sessions-history}
use Rattle.wire.proofs.session_laws.a_session_is_a_servers_history.Goals as goal

pub returns : goal.returns
returns g c =
    let s = g.session in
    sessions-history s.common s.opening s.history s.parts s.flown c.requires.0 c.requires.1.0 c.requires.1.1.0 c.requires.1.1.1
