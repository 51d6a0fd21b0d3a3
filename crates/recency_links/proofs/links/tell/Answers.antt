use Rattle.std.proofs.Common.{◌≡◌, ◌<◌, Some, length, refl, arith, ap}
use Rattle.std.proofs.lemmas.List.{get_or_read}
use Rattle.recency_links.specs.declared.node.Node.{Node}
use Rattle.recency_links.specs.Nodes.{no_node, row_at}
use Rattle.recency_links.specs.Lists.{IsListed}
use Rattle.recency_links.proofs.ListedLemmas.{Comes, IsFound, IsWithin, found, used-IsWithin}
use Rattle.recency_links.proofs.OperationLemmas.{told}
use Rattle.recency.specs.Rows.{told_rows}
use Rattle.recency_links.specs.Lists.{rows_of}
use Rattle.recency_links.proofs.links.tell.Goals as goal

at : (c : goal.After-set_row) → IsFound c.args.links.now.nodes.items c.args.links.now.free c.args.links.now.count c.args.links.now.index.entries c.args.ip.now c.args.number
at c = found _ _ _ _ _ _ c.requires.list c.requires.distinct c.requires.number

comes : (c : goal.After-set_row) → Comes c.set_row.new.nodes.items c.args.links.now.free c.args.links.now.count c.args.links.now.index.entries (told_rows (rows_of c.args.links.now) c.args.ip.now c.args.stamp)
comes c =
    let is = get_or_read c.args.links.now.nodes.items c.args.number c.index.result.now (used-IsWithin _ _ (at c).xs c.args.number (at c).ys (at c).free (at c).are).it c.index.ensures no_node in
    told c.args.links.now.nodes.items c.set_row.new.nodes.items c.args.links.now.free c.args.links.now.count c.args.links.now.index.entries c.args.ip.now c.args.number c.args.stamp _ (at c)
    (ap (λ (node : Node). record node.row { told = Some c.args.stamp }) is) c.set_row.ensures

pub index-requires : goal.index-requires
index-requires c =
    let links = c.args.links.now in
    let at = found links.nodes.items links.free links.count links.index.entries c.args.ip.now c.args.number c.requires.list c.requires.distinct c.requires.number in
    let within = used-IsWithin links.nodes.items links.free at.xs c.args.number at.ys at.free at.are in
    omega (arith, within.it, c.args.links.now.nodes.ok.0)

pub set_row-requires : goal.set_row-requires
set_row-requires c =
    let links = c.args.links.now in
    let at = found links.nodes.items links.free links.count links.index.entries c.args.ip.now c.args.number c.requires.list c.requires.distinct c.requires.number in
    let within = used-IsWithin links.nodes.items links.free at.xs c.args.number at.ys at.free at.are in
    omega (arith, within.it, c.args.links.now.nodes.ok.0)

pub returns-clause-list : goal.returns-clause-list
returns-clause-list c = (comes c).list

pub returns-clause-rows : goal.returns-clause-rows
returns-clause-rows c = (comes c).rows_are
