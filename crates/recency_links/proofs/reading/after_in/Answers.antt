use Rattle.std.proofs.Common.{sym, ap, subst, ◌∙◌, IsSome, Option, true≢false, arith}
use Rattle.recency.specs.declared.row.Row.{Row}
use Rattle.recency_links.specs.declared.node.Node.{Node}
use Rattle.recency_links.specs.Lists.{row_unless_end}
use Rattle.recency_links.proofs.OperationLemmas.{found-IsWithin}
use Rattle.recency_links.proofs.ReadingLemmas.{absent-is, after-is}
use Rattle.recency_links.proofs.reading.after_in.Goals as goal

pub read-node-requires : goal.read-node-requires
read-node-requires g c = omega (arith, (found-IsWithin c.args.ip.now c.requires.list c.requires.distinct (sym c.number_of.ensures ∙ c.in-Some.is)).it, c.args.links.now.nodes.ok.0)

pub read_row-requires : goal.read_row-requires
read_row-requires g c =
    omega (
      arith,
      (found-IsWithin c.args.ip.now c.requires.list c.requires.distinct (sym c.number_of.ensures ∙ c.in-Some.is)).newer,
      ap (λ (node : Node). node.newer) c.read-node.ensures.node,
      c.args.links.now.nodes.ok.0,
    )

pub returns-in-None-clause-row : goal.returns-in-None-clause-row
returns-in-None-clause-row g c =
    let P : Option Row → Type 0 = λ found. IsSome found in
    absurd (true≢false (sym (subst P (absent-is c.requires.list c.args.ip.now c.number_of.result c.number_of.ensures c.in-None.is) c.requires.listed)))

pub returns-in-Some-clause-row : goal.returns-in-Some-clause-row
returns-in-Some-clause-row g c =
    c.read_row.ensures.row ∙ ap (λ (node : Node). row_unless_end c.args.links.now.nodes.items node.newer) c.read-node.ensures.node
    ∙ after-is c.requires.list c.args.ip.now c.in-Some.number c.requires.distinct (sym c.number_of.ensures ∙ c.in-Some.is)
