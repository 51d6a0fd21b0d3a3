use Rattle.std.proofs.Common.{◌∙◌, ap, sym}
use Rattle.std.specs.Prelude.{Some}
use Rattle.recency.specs.Rows.{oldest}
use Rattle.mru_read.specs.Walks.{left_after}
use Rattle.mru_read.proofs.WalkLemmas.{newer-left}
use Rattle.mru_read.proofs.passing.row_after.Goals as goal

pub returns-in-Some-clause-row : goal.returns-in-Some-clause-row
returns-in-Some-clause-row g c =
    c.known-in-Some.ensures.same ∙ c.newer_than-in-Some.ensures.row ∙ newer-left (g.R.Recency.rows c.args.list.now) (Some c.in-Some.ip)
    ∙ ap (λ place. oldest (left_after (g.R.Recency.rows c.args.list.now) place)) (sym c.in-Some.is)
