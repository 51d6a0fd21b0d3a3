use Rattle.std.proofs.Common.{ap, arith}
use Rattle.recency_links.specs.declared.node.Node.{Node}
use Rattle.recency_links.proofs.OperationLemmas.{oldest-IsWithin, oldest-dropped}
use Rattle.recency_links.proofs.links.drop_oldest.Goals as goal

pub unlink-requires-clause-older : goal.unlink-requires-clause-older
unlink-requires-clause-older c = omega (arith, (oldest-IsWithin c.requires.list c.requires.some c.requires.number).older, ap (λ (node : Node). node.older) c.requires.node, c.args.links.now.nodes.ok.0)

pub unlink-requires-clause-newer : goal.unlink-requires-clause-newer
unlink-requires-clause-newer c = omega (arith, (oldest-IsWithin c.requires.list c.requires.some c.requires.number).newer, ap (λ (node : Node). node.newer) c.requires.node, c.args.links.now.nodes.ok.0)

pub set_newer-requires : goal.set_newer-requires
set_newer-requires c =
    omega (arith, (oldest-IsWithin c.requires.list c.requires.some c.requires.number).it, c.args.links.now.nodes.ok.0, c.unlink.new.nodes.ok.0, c.unlink.ensures.length)

pub returns-clause-list : goal.returns-clause-list
returns-clause-list c = (oldest-dropped c.requires.list c.requires.some c.requires.number c.requires.distinct c.forget.ensures c.requires.node c.unlink.ensures c.set_newer.ensures).0

pub returns-clause-rows : goal.returns-clause-rows
returns-clause-rows c = (oldest-dropped c.requires.list c.requires.some c.requires.number c.requires.distinct c.forget.ensures c.requires.node c.unlink.ensures c.set_newer.ensures).1
