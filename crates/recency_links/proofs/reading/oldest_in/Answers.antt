use Rattle.std.proofs.Common.{ap, ◌∙◌, arith}
use Rattle.recency_links.specs.Lists.{row_unless_end}
use Rattle.recency_links.proofs.ReadingLemmas.{end-newer, end-within, oldest-is, oldest-within}
use Rattle.recency_links.proofs.reading.oldest_in.Goals as goal

pub index-requires : goal.index-requires
index-requires g c = omega (arith, end-within c.requires, c.args.links.now.nodes.ok.0)

pub read_row-requires : goal.read_row-requires
read_row-requires g c = omega (arith, oldest-within c.requires, end-newer c.requires c.index.result.now c.index.ensures, c.args.links.now.nodes.ok.0)

pub returns-clause-row : goal.returns-clause-row
returns-clause-row g c =
    c.read_row.ensures.row ∙ ap (row_unless_end c.args.links.now.nodes.items) (end-newer c.requires c.index.result.now c.index.ensures) ∙ oldest-is c.requires
