use Rattle.std.proofs.Common.{◌≡◌, ◌∷◌, sym, ap, ◌∙◌, length, arith}
use Rattle.recency_links.specs.Lists.{rows_of}
use Rattle.recency_links.proofs.ReadingLemmas.{count-is, end-newer, end-within, oldest-node, oldest-within}
use Rattle.recency_links.proofs.SweptLemmas.{AreRows-rest, swept-dropped, swept-empty, swept-kept}
use Rattle.recency_links.proofs.sweeping.drop_aged.Goals as goal

pub index-requires : goal.index-requires
index-requires g c = omega (arith, end-within c.requires.list, c.args.links.now.nodes.ok.0)

pub read-node-requires : goal.read-node-requires
read-node-requires g c = omega (arith, oldest-within c.requires.list, end-newer c.requires.list c.index.result.now c.index.ensures, c.args.links.now.nodes.ok.0)

pub drop_oldest-requires-clause-number : goal.drop_oldest-requires-clause-number
drop_oldest-requires-clause-number g c = end-newer c.requires.list c.index.result.now c.index.ensures

pub returns-then-not-is_dropped-clause-stays : goal.returns-then-not-is_dropped-clause-stays
returns-then-not-is_dropped-clause-stays g c same =
    let first = oldest-node c.requires.list c.read-node.result c.index.result.now.newer (omega (arith, c.if-links-eq0.false)) (end-newer c.requires.list c.index.result.now c.index.ensures) c.read-node.ensures.node in
    swept-kept c.args.limits.now c.read-node.result.row (rows_of c.args.links.now) c.args.moment c.args.links.now.count first (count-is c.requires.list) (sym c.is_dropped.ensures ∙ c.if-not-is_dropped.true)

pub returns-clause-swept : goal.returns-clause-swept
returns-clause-swept g c =
    swept-dropped c.args.limits.now c.read-node.result.row (rows_of c.drop_oldest.new.links) (rows_of c.args.links.now) c.args.moment c.args.links.now.count c.drop_oldest.ensures.rows (count-is c.requires.list)
    (sym c.is_dropped.ensures ∙ c.if-not-is_dropped.false)

pub returns-clause-count : goal.returns-clause-count
returns-clause-count g c = omega (arith, count-is c.requires.list, count-is c.drop_oldest.ensures.list, ap length c.drop_oldest.ensures.rows)
