use Rattle.std.proofs.Common.{◌∙◌, sym}
use Rattle.mru_read.proofs.WalkLemmas.{stands-found, stands-none}
use Rattle.mru_read.proofs.starting.is_in_place.Goals as goal

pub returns-in-None-clause-stands : goal.returns-in-None-clause-stands
returns-in-None-clause-stands g c =
    sym (stands-none (g.R.Recency.rows c.args.list.now) c.args.pair.now (sym c.find.ensures.row ∙ c.in-None.is))

pub returns-in-Some-clause-stands : goal.returns-in-Some-clause-stands
returns-in-Some-clause-stands g c =
    c.is_row_of.ensures ∙ sym (stands-found (g.R.Recency.rows c.args.list.now) c.args.pair.now c.in-Some.row c.requires (sym c.find.ensures.row ∙ c.in-Some.is))
