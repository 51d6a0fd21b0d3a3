use Rattle.std.proofs.Common.{ℕ, List, codes}
use Rattle.ntpq_report.specs.Columns.{row_text}
use Rattle.ntpq_report.proofs.RowLemmas.{append-next}
use Rattle.ntpq_report.proofs.columns.put_row.Goals as goal

pub returns : goal.returns
unfolding row_text
returns c =
    let start = c.args.text.now.items in
    let gap : List ℕ = codes " " in
    let refid = append-next start _ _ _ gap _ c.in_ok-put_cell.ensures c.in_ok-put_next.ensures in
    let stratum = append-next start _ _ _ gap _ refid c.in_ok-put_next-2.ensures in
    let poll = append-next start _ _ _ gap _ stratum c.in_ok-put_next-3.ensures in
    let reach = append-next start _ _ _ gap _ poll c.in_ok-put_next-4.ensures in
    let delay = append-next start _ _ _ gap _ reach c.in_ok-put_next-5.ensures in
    let offset = append-next start _ _ _ gap _ delay c.in_ok-put_next-6.ensures in
    append-next start _ _ _ gap _ offset c.in_ok-put_next-7.ensures
