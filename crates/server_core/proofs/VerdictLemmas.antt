-- A client list that an arrival has touched.
use Rattle.std.proofs.Common.{ℕ, List}
use Rattle.recency.specs.declared.limits.Limits.{Limits}
use Rattle.recency.specs.declared.row.Row.{Row}
use Rattle.recency.specs.Rows.{AreBefore, AreUpTo}
use Rattle.recency.proofs.ArrivalLemmas.{AreUpTo-touched}
use Rattle.recency.proofs.RowLemmas.{AreUpTo-told}
use Rattle.sys_vars.specs.declared.published.Record.{Record}
use Rattle.server_core.specs.declared.class.Ask.{Ask}
use Rattle.server_core.specs.declared.verdict.Verdict.{Verdict}
use Rattle.server_core.specs.declared.verdict.Verdict.TheVariants.{Ignored, Limited, Rate, Served}
use Rattle.server_core.specs.Verdicts.{rows_at, rows_told, verdict_at, visit_of}

-- a client that is told has arrived no later
AreUpTo-rows_told : (verdict : Verdict) (rows : List Row) (ask : Ask) (stamp : ℕ) → AreUpTo stamp rows → AreUpTo stamp (rows_told verdict rows ask stamp)
AreUpTo-rows_told Rate rows ask stamp up_to = AreUpTo-told stamp rows ask.from.ip stamp up_to
AreUpTo-rows_told Ignored rows ask stamp up_to = up_to
AreUpTo-rows_told Limited rows ask stamp up_to = up_to
AreUpTo-rows_told (Served basis) rows ask stamp up_to = up_to

-- nobody has arrived later than the request that drew the last stamp
pub AreUpTo-rows_at : (rec : Record) (limits : Limits) (rows : List Row) (stamp : ℕ) (ask : Ask) → AreBefore stamp rows → AreUpTo stamp (rows_at rec limits rows stamp ask)
AreUpTo-rows_at rec limits rows stamp ask before =
    AreUpTo-rows_told (verdict_at rec limits rows stamp ask) _ ask stamp (AreUpTo-touched limits rows (visit_of rec ask) stamp before)
