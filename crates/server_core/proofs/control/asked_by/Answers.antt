use Rattle.server_core.proofs.ControlLemmas.{only_asked}
use Rattle.server_core.proofs.control.asked_by.Goals as goal

pub returns-clause-only : goal.returns-clause-only
returns-clause-only c = only_asked _ _ _ _ c.head_of.ensures c.in_ok-what.ensures.only
