use Rattle.drawn_session.proofs.OpeningLemmas.{two-workers}
use Rattle.drawn_session.proofs.opening.open_workers.Goals as goal

pub returns : goal.returns
returns c = two-workers c.args.number c.in_ok-open_worker.field-0 c.in_ok-open_worker-2.field-0 c.new-list.result.items c.push.new.self.items c.push-2.new.self.items c.of.result
    c.in_ok-open_worker.ensures c.in_ok-open_worker-2.ensures c.new-list.ensures.items c.in_ok-push.ensures.items c.in_ok-push-2.ensures.items c.of.ensures
