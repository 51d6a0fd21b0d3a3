use Rattle.std.proofs.Common.{◌∙◌}
use Rattle.recency.proofs.RowLemmas.{AreRows-told}
use Rattle.recency_links.specs.Lists.{rows_of}
use Rattle.recency_links.proofs.TouchedLemmas.{kept-same}
use Rattle.recency_links.proofs.linked_list.LinkedListRecency.tell.Goals as goal

pub invariant_of-self : goal.invariant_of-self
invariant_of-self c = record {
  list = c.tell_in.ensures.list;
  kept = kept-same c.self.inside.limits _ (rows_of c.tell_in.new.links) c.tell_in.ensures.rows (AreRows-told c.self.inside.limits (rows_of c.self.inside.links) c.args.ip.now c.args.stamp c.self.invariant.kept);
  nodes = c.tell_in.ensures.nodes ∙ c.self.invariant.nodes;
}

pub returns-clause-kept : goal.returns-clause-kept
returns-clause-kept c =
    kept-same c.self.inside.limits _ (rows_of c.tell_in.new.links) c.tell_in.ensures.rows (AreRows-told c.self.inside.limits (rows_of c.self.inside.links) c.args.ip.now c.args.stamp c.self.invariant.kept)
