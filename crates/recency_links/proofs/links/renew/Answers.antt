use Rattle.std.proofs.Common.{◌++◌, ◌∷◌, [], refl, ap, ◌∙◌, arith}
use Rattle.recency.specs.declared.row.Row.{Row}
use Rattle.recency.specs.Rows.{others}
use Rattle.recency_links.specs.declared.node.Node.{Node}
use Rattle.recency_links.specs.Lists.{rows_of}
use Rattle.recency_links.proofs.OperationLemmas.{found-IsLoose, found-IsWithin, found-find_row, found-renewed}
use Rattle.recency_links.proofs.links.renew.Goals as goal

pub read-node-requires : goal.read-node-requires
read-node-requires g c = omega (arith, (found-IsWithin c.args.visit.now.ip c.requires.list c.requires.distinct c.requires.number).it, c.args.links.now.nodes.ok.0)

pub unlink-requires-clause-older : goal.unlink-requires-clause-older
unlink-requires-clause-older g c =
    omega (arith, (found-IsWithin c.args.visit.now.ip c.requires.list c.requires.distinct c.requires.number).older, ap (λ (node : Node). node.older) c.read-node.ensures.node, c.args.links.now.nodes.ok.0)

pub unlink-requires-clause-newer : goal.unlink-requires-clause-newer
unlink-requires-clause-newer g c =
    omega (arith, (found-IsWithin c.args.visit.now.ip c.requires.list c.requires.distinct c.requires.number).newer, ap (λ (node : Node). node.newer) c.read-node.ensures.node, c.args.links.now.nodes.ok.0)

pub set_row-requires : goal.set_row-requires
set_row-requires g c =
    omega (arith, (found-IsWithin c.args.visit.now.ip c.requires.list c.requires.distinct c.requires.number).it, c.args.links.now.nodes.ok.0, c.unlink.new.nodes.ok.0, c.unlink.ensures.length)

pub push_newest-requires-clause-number : goal.push_newest-requires-clause-number
push_newest-requires-clause-number g c =
    omega (arith, (found-IsLoose c.args.visit.now.ip c.requires.list c.requires.distinct c.requires.number c.read-node.ensures.node c.unlink.ensures c.set_row.ensures).it, c.set_row.new.nodes.ok.0)

pub push_newest-requires-clause-newest : goal.push_newest-requires-clause-newest
push_newest-requires-clause-newest g c =
    omega (arith, (found-IsLoose c.args.visit.now.ip c.requires.list c.requires.distinct c.requires.number c.read-node.ensures.node c.unlink.ensures c.set_row.ensures).newest, c.set_row.new.nodes.ok.0)

pub push_newest-requires-clause-used : goal.push_newest-requires-clause-used
push_newest-requires-clause-used g c = (found-IsLoose c.args.visit.now.ip c.requires.list c.requires.distinct c.requires.number c.read-node.ensures.node c.unlink.ensures c.set_row.ensures).used

pub push_newest-requires-clause-apart : goal.push_newest-requires-clause-apart
push_newest-requires-clause-apart g c = (found-IsLoose c.args.visit.now.ip c.requires.list c.requires.distinct c.requires.number c.read-node.ensures.node c.unlink.ensures c.set_row.ensures).apart

pub returns-clause-list : goal.returns-clause-list
returns-clause-list g c =
    (found-renewed c.args.visit.now.ip c.requires.list c.requires.distinct c.requires.number c.read-node.ensures.node c.unlink.ensures c.set_row.ensures c.push_newest.ensures (ap (λ (row : Row). row.ip) c.row_after.ensures)).list

pub returns-clause-rows : goal.returns-clause-rows
returns-clause-rows g c =
    let comes = found-renewed c.args.visit.now.ip c.requires.list c.requires.distinct c.requires.number c.read-node.ensures.node c.unlink.ensures c.set_row.ensures c.push_newest.ensures (ap (λ (row : Row). row.ip) c.row_after.ensures) in
    rw (found-find_row c.args.visit.now.ip c.requires.list c.requires.distinct c.requires.number c.read-node.ensures.node)
    (comes.rows_are ∙ ap (λ row. others (rows_of c.args.links.now) c.args.visit.now.ip ++ row ∷ []) c.row_after.ensures)

pub returns-clause-found : goal.returns-clause-found
returns-clause-found g c = rw (found-find_row c.args.visit.now.ip c.requires.list c.requires.distinct c.requires.number c.read-node.ensures.node) refl
