use Rattle.wire.proofs.Sessions.{served-history}
use Rattle.wire.proofs.session_laws.a_served_session_is_a_servers_history.Goals as goal

pub returns : goal.returns
returns g c =
    let given = g.given in
    let told = c.journals_are_tellable.ensures in
    served-history _ given.common given.opening c.args.journal.now given.olds given.news given.pilot given.new c.requires.1.1.0
    (record { moments = told.moments; tellable = told.tellable }) c.requires.1.1.1
