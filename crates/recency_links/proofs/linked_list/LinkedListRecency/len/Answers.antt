use Rattle.std.proofs.Common.{length, ap, ◌∙◌}
use Rattle.recency.specs.Rows.{ClientList}
use Rattle.recency_links.proofs.ReadingLemmas.{count-is}
use Rattle.recency_links.proofs.linked_list.LinkedListRecency.len.Goals as goal

pub returns-clause-len : goal.returns-clause-len
returns-clause-len c = count-is c.self.invariant.list ∙ ap (λ (list : ClientList). length list.rows) c.self.view_is
