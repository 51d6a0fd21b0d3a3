use Rattle.std.proofs.Common.{◌++◌, ◌∷◌, [], drop, ap, ◌∙◌, arith}
use Rattle.recency.specs.declared.row.Row.{Row}
use Rattle.recency_links.specs.declared.node.Node.{Node}
use Rattle.recency_links.specs.Lists.{rows_of}
use Rattle.recency_links.proofs.OperationLemmas.{oldest-IsLoose, oldest-IsWithin, oldest-replaced}
use Rattle.recency_links.proofs.ReadingLemmas.{end-newer, end-within}
use Rattle.recency_links.proofs.links.replace.Goals as goal

pub index-requires : goal.index-requires
index-requires g c = omega (arith, end-within c.requires.list, c.args.links.now.nodes.ok.0)

pub read-node-requires : goal.read-node-requires
read-node-requires g c =
    omega (arith, (oldest-IsWithin c.requires.list c.requires.some (end-newer c.requires.list c.index.result.now c.index.ensures)).it, c.args.links.now.nodes.ok.0)

pub unlink-requires-clause-older : goal.unlink-requires-clause-older
unlink-requires-clause-older g c =
    omega (arith, (oldest-IsWithin c.requires.list c.requires.some (end-newer c.requires.list c.index.result.now c.index.ensures)).older, ap (λ (node : Node). node.older) c.read-node.ensures.node, c.args.links.now.nodes.ok.0)

pub unlink-requires-clause-newer : goal.unlink-requires-clause-newer
unlink-requires-clause-newer g c =
    omega (arith, (oldest-IsWithin c.requires.list c.requires.some (end-newer c.requires.list c.index.result.now c.index.ensures)).newer, ap (λ (node : Node). node.newer) c.read-node.ensures.node, c.args.links.now.nodes.ok.0)

pub set_row-requires : goal.set_row-requires
set_row-requires g c =
    omega (arith, (oldest-IsWithin c.requires.list c.requires.some (end-newer c.requires.list c.index.result.now c.index.ensures)).it, c.args.links.now.nodes.ok.0, c.unlink.new.nodes.ok.0, c.unlink.ensures.length)

pub push_newest-requires-clause-number : goal.push_newest-requires-clause-number
push_newest-requires-clause-number g c =
    omega (arith, (oldest-IsLoose c.requires.list c.requires.some (end-newer c.requires.list c.index.result.now c.index.ensures) c.read-node.ensures.node c.unlink.ensures c.set_row.ensures).it, c.set_row.new.nodes.ok.0)

pub push_newest-requires-clause-newest : goal.push_newest-requires-clause-newest
push_newest-requires-clause-newest g c =
    omega (arith, (oldest-IsLoose c.requires.list c.requires.some (end-newer c.requires.list c.index.result.now c.index.ensures) c.read-node.ensures.node c.unlink.ensures c.set_row.ensures).newest, c.set_row.new.nodes.ok.0)

pub push_newest-requires-clause-used : goal.push_newest-requires-clause-used
push_newest-requires-clause-used g c = (oldest-IsLoose c.requires.list c.requires.some (end-newer c.requires.list c.index.result.now c.index.ensures) c.read-node.ensures.node c.unlink.ensures c.set_row.ensures).used

pub push_newest-requires-clause-apart : goal.push_newest-requires-clause-apart
push_newest-requires-clause-apart g c = (oldest-IsLoose c.requires.list c.requires.some (end-newer c.requires.list c.index.result.now c.index.ensures) c.read-node.ensures.node c.unlink.ensures c.set_row.ensures).apart

pub returns-clause-list : goal.returns-clause-list
returns-clause-list g c =
    (oldest-replaced c.requires.list c.requires.some (end-newer c.requires.list c.index.result.now c.index.ensures) c.note.new.index.entries c.requires.distinct c.requires.absent c.in_ok-note.ensures.noted c.forget.ensures
    c.read-node.ensures.node c.unlink.ensures c.set_row.ensures c.push_newest.ensures (ap (λ (row : Row). row.ip) c.new_row.ensures)).list

pub returns-clause-rows : goal.returns-clause-rows
returns-clause-rows g c =
    (oldest-replaced c.requires.list c.requires.some (end-newer c.requires.list c.index.result.now c.index.ensures) c.note.new.index.entries c.requires.distinct c.requires.absent c.in_ok-note.ensures.noted c.forget.ensures
    c.read-node.ensures.node c.unlink.ensures c.set_row.ensures c.push_newest.ensures (ap (λ (row : Row). row.ip) c.new_row.ensures)).rows_are
    ∙ ap (λ row. drop 1 (rows_of c.args.links.now) ++ row ∷ []) c.new_row.ensures
