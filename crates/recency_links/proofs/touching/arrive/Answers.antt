use Rattle.std.proofs.Common.{◌≡◌, ◌++◌, ◌∷◌, [], List, IfSome, Option, sym, subst, ◌∙◌}
use Rattle.recency.specs.declared.row.Row.{Row}
use Rattle.recency.specs.Arrivals.{row_after}
use Rattle.recency.specs.Rows.{others}
use Rattle.recency_links.specs.Lists.{rows_of}
use Rattle.recency_links.proofs.ReadingLemmas.{absent-is}
use Rattle.recency_links.proofs.TouchedLemmas.{renewed-touched}
use Rattle.recency_links.proofs.touching.arrive.Goals as goal

pub admit-requires-clause-absent : goal.admit-requires-clause-absent
admit-requires-clause-absent g c = absent-is c.requires.list c.args.visit.now.ip c.number_of.result c.number_of.ensures c.in-None.is

pub renew-requires-clause-number : goal.renew-requires-clause-number
renew-requires-clause-number g c = sym c.number_of.ensures ∙ c.in-Some.is

pub returns-in-Some-clause-touched : goal.returns-in-Some-clause-touched
returns-in-Some-clause-touched g c =
    renewed-touched c.args.limits.now (rows_of c.args.links.now) c.args.visit.now c.args.stamp (rows_of c.renew.new.links) c.renew.ensures.found c.renew.ensures.rows
