use Rattle.std.proofs.Common.{length, ap, arith}
use Rattle.recency.specs.Rows.{ClientList}
use Rattle.recency_links.proofs.ReadingLemmas.{count-is}
use Rattle.recency_links.proofs.linked_list.LinkedListRecency.sweep.Goals as goal

pub returns-clause-gone : goal.returns-clause-gone
returns-clause-gone g c =
    omega (arith, c.sweep_in.ensures.gone, count-is c.sweep_in.ensures.linked.list, count-is c.self.invariant.list, ap (λ (list : ClientList). length list.rows) c.self.view_is)

pub returns-clause-cost : goal.returns-clause-cost
returns-clause-cost g c =
    omega (arith, c.sweep_in.ensures.one_more, c.sweep_in.ensures.gone, count-is c.self.invariant.list, ap (λ (list : ClientList). length list.rows) c.self.view_is)
