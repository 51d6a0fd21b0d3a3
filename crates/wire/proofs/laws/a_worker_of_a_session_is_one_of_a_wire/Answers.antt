use Rattle.wire.proofs.Parts.{workers-part}
use Rattle.wire.proofs.laws.a_worker_of_a_session_is_one_of_a_wire.Goals as goal

pub returns : goal.returns
returns g c = λ is events. workers-part g.given.common g.given.opening g.given.history g.given.part g.given.wire is c.requires events
