use Rattle.server_core.proofs.StateLemmas.{stepped}
use Rattle.server_core.proofs.book.Book.step.Goals as goal

pub returns-in-Ok-clause-next : goal.returns-in-Ok-clause-next
returns-in-Ok-clause-next c =
    stepped c.args.self.now.state c.args.op c.self-2.inside.opening _ _ _ _ _ _ _ c.self-2.view_is c.act.ensures.published c.in-Ok.ensures.rows c.in-Ok.ensures.stamp c.act.ensures.limits c.act.ensures.origin c.push.ensures.entered
