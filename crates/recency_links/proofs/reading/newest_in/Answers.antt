use Rattle.std.proofs.Common.{ap, ◌∙◌, arith}
use Rattle.recency_links.specs.Lists.{row_unless_end}
use Rattle.recency_links.proofs.ReadingLemmas.{end-older, end-within, newest-is, newest-within}
use Rattle.recency_links.proofs.reading.newest_in.Goals as goal

pub index-requires : goal.index-requires
index-requires c = omega (arith, end-within c.requires, c.args.links.now.nodes.ok.0)

pub row_of-requires : goal.row_of-requires
row_of-requires c = omega (arith, newest-within c.requires, end-older c.requires c.index.result.now c.index.ensures, c.args.links.now.nodes.ok.0)

pub returns : goal.returns
returns c = c.row_of.ensures ∙ ap (row_unless_end c.args.links.now.nodes.items) (end-older c.requires c.index.result.now c.index.ensures) ∙ newest-is c.requires
