use Rattle.list_telling.proofs.Told.{answer-told}
use Rattle.wire.proofs.Walks.{wire-told}
use Rattle.wire.proofs.laws.a_wire_is_told.Goals as goal

pub returns : goal.returns
returns g c =
    wire-told answer-told g.given.common g.given.opening g.given.history g.given.server g.given.client c.requires.0 c.requires.1.0 g.given.acts g.given.wire
    c.requires.1.1.0 c.requires.1.1.1
