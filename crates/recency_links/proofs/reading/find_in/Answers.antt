use Rattle.std.proofs.Common.{sym, ◌∙◌, arith}
use Rattle.recency_links.proofs.OperationLemmas.{found-IsWithin, found-find_row}
use Rattle.recency_links.proofs.ReadingLemmas.{absent-is}
use Rattle.recency_links.proofs.reading.find_in.Goals as goal

pub read-requires : goal.read-requires
read-requires g c = omega (arith, (found-IsWithin c.args.ip.now c.requires.list c.requires.distinct (sym c.number_of.ensures ∙ c.in-Some.is)).it, c.args.links.now.nodes.ok.0)

pub returns-in-None-clause-row : goal.returns-in-None-clause-row
returns-in-None-clause-row g c = sym (absent-is c.requires.list c.args.ip.now c.number_of.result c.number_of.ensures c.in-None.is)

pub returns-in-Some-clause-row : goal.returns-in-Some-clause-row
returns-in-Some-clause-row g c = sym (found-find_row c.args.ip.now c.requires.list c.requires.distinct (sym c.number_of.ensures ∙ c.in-Some.is) c.read.ensures.node)
