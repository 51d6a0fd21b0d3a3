-- The clients of a server can be told at each place of a history whose numbers have their widths.
use Rattle.std.proofs.Common.{◌≡◌, ℕ, zero, suc, ◌^◌, ◌<◌, Bool, true, false, cond, Option, Some, None, List, [], ◌∷◌, drop, find, length, reverse, refl, arith}
use Rattle.std.proofs.lemmas.Bool.{cond_both}
use Rattle.std.specs.List.{AllByRecursion}
use Rattle.std.specs.Option.{option_map, unwrap_or}
use Rattle.access_rules.specs.Rules.{flags_of}
use Rattle.access_rules.specs.declared.rules.Rule.{Rule}
use Rattle.list_telling.specs.Histories.{AreTellableOps, HaveFlags, IsTellableAsk, IsTellableOp}
use Rattle.mru_read.specs.Pages.{IsTellableRow}
use Rattle.mrulist_coverage.proofs.FrontLemmas.{AllByRecursion-find}
use Rattle.mrulist_coverage.proofs.Sublists.{AllByRecursion-reverse}
use Rattle.net_addr.specs.Addresses.{IsIp, same_ip}
use Rattle.net_addr.specs.Prefixes.{has_ip}
use Rattle.net_addr.specs.declared.addr.Ip.{Ip}
use Rattle.recency.proofs.ListLemmas.{AllByRecursion-append, AllByRecursion-filter, AllByRecursion-map}
use Rattle.recency.specs.Arrivals.{admission, admitted, new_row, row_after, rows_by, touched_rows}
use Rattle.recency.specs.Rows.{find_row, others, told_row}
use Rattle.recency.specs.Sweeps.{is_dropped, swept_rows}
use Rattle.recency.specs.declared.limits.Limits.{Limits}
use Rattle.recency.specs.declared.row.Row.{Row}
use Rattle.recency.specs.declared.visit.Touched.{Touched}
use Rattle.recency.specs.declared.visit.Touched.TheVariants.{Known, Added, Replaced, Untracked}
use Rattle.recency.specs.declared.visit.Visit.{Visit}
use Rattle.server_core.specs.Histories.{state_at}
use Rattle.server_core.specs.States.{ServerState, state_after}
use Rattle.server_core.specs.Verdicts.{arrival_rows, drawn, is_ignored, rows_at, rows_told, rows_touched, verdict_at, visit_of}
use Rattle.server_core.specs.declared.class.Ask.{Ask}
use Rattle.server_core.specs.declared.op.Op.{Op}
use Rattle.server_core.specs.declared.op.Op.TheVariants.{Publish, Arrive, Look, Read, Sweep, Stop}
use Rattle.server_core.specs.declared.verdict.Verdict.{Verdict}
use Rattle.server_core.specs.declared.verdict.Verdict.TheVariants.{Ignored, Limited, Rate, Served}
use Rattle.sys_vars.specs.declared.published.Record.{Record}

-- rows that can be told
abbrev AreTellable : List Row → Type 0
AreTellable rows = AllByRecursion IsTellableRow rows

-- a visit whose numbers have their widths
record IsTellableVisit (visit : Visit) : Type 0 where
  ip : IsIp visit.ip
  port : visit.port < 2 ^ 16
  mv : visit.mv < 2 ^ 8
  flags : visit.flags < 2 ^ 16

-- a new client's row can be told
new-tellable : (visit : Visit) (stamp : ℕ) → IsTellableVisit visit → IsTellableRow (new_row visit stamp)
new-tellable visit stamp is = record { ip = is.ip; port = is.port; count = omega arith; mv = is.mv; flags = is.flags }

-- and so can that of one that came again
after-tellable : (row : Row) (visit : Visit) (stamp : ℕ) → IsTellableRow row → IsTellableVisit visit → IsTellableRow (row_after row visit stamp)
after-tellable row visit stamp old is = record { ip = old.ip; port = is.port; count = omega arith; mv = is.mv; flags = is.flags }

rest-tellable : (rows : List Row) → AreTellable rows → AreTellable (drop 1 rows)
rest-tellable [] are = tt
rest-tellable (row ∷ rows) are = are.1

admitted-tellable : (answer : Touched) (rows : List Row) (new : Row) → AreTellable rows → IsTellableRow new → AreTellable (admitted answer rows new)
admitted-tellable Known rows new are is = are
admitted-tellable Added rows new are is = AllByRecursion-append IsTellableRow rows (new ∷ []) are (is, tt)
admitted-tellable (Replaced ip) rows new are is = AllByRecursion-append IsTellableRow (drop 1 rows) (new ∷ []) (rest-tellable rows are) (is, tt)
admitted-tellable Untracked rows new are is = are

-- so can all after an arrival
touched-tellable : (limits : Limits) (rows : List Row) (visit : Visit) (stamp : ℕ) → AreTellable rows → IsTellableVisit visit → AreTellable (touched_rows limits rows visit stamp)
touched-tellable limits rows visit stamp are is = by (find_row rows visit.ip) (λ row found. AllByRecursion-find IsTellableRow (λ row. same_ip row.ip visit.ip) rows row are found)
  where
    by : (found : Option Row) → ((row : Row) → found ≡ Some row → IsTellableRow row) → AreTellable (rows_by found limits rows visit stamp)
    by None old = admitted-tellable (admission limits rows stamp) rows (new_row visit stamp) are (new-tellable visit stamp is)
    by (Some row) old =
        AllByRecursion-append IsTellableRow (others rows visit.ip) (row_after row visit stamp ∷ [])
        (AllByRecursion-filter IsTellableRow _ rows are) (after-tellable row visit stamp (old row refl) is, tt)

told_row-tellable : (ip : Ip) (stamp : ℕ) (row : Row) → IsTellableRow row → IsTellableRow (told_row ip stamp row)
told_row-tellable ip stamp row is = by (same_ip row.ip ip)
  where
    by : (same : Bool) → IsTellableRow (cond same (record row { told = Some stamp }) row)
    by true = record { ip = is.ip; port = is.port; count = is.count; mv = is.mv; flags = is.flags }
    by false = is

-- all after a client was told
told-tellable : (verdict : Verdict) (rows : List Row) (ask : Ask) (stamp : ℕ) → AreTellable rows → AreTellable (rows_told verdict rows ask stamp)
told-tellable Ignored rows ask stamp are = are
told-tellable Limited rows ask stamp are = are
told-tellable Rate rows ask stamp are =
    AllByRecursion-map IsTellableRow IsTellableRow (told_row ask.from.ip stamp) (told_row-tellable ask.from.ip stamp) rows are
told-tellable (Served basis) rows ask stamp are = are

-- and all that a sweep leaves
swept-tellable : (limits : Limits) (rows : List Row) (moment : ℕ) → AreTellable rows → AreTellable (swept_rows limits rows moment)
swept-tellable limits [] moment are = tt
swept-tellable limits (row ∷ rows) moment are =
    cond_both (is_dropped limits row (length (row ∷ rows)) moment) (swept_rows limits rows moment) (row ∷ rows) AreTellable
    (λ _. swept-tellable limits rows moment are.1) (λ _. are)

-- the flags of an address are those of a rule, or none
flags-fit : (rules : List Rule) (ip : Ip) → HaveFlags rules → flags_of rules ip < 2 ^ 16
flags-fit rules ip have =
    by (find (λ rule. has_ip rule.prefix ip) (reverse rules))
    (λ rule found. AllByRecursion-find (λ (rule : Rule). rule.flags < 2 ^ 16) (λ rule. has_ip rule.prefix ip) (reverse rules) rule (AllByRecursion-reverse (λ (rule : Rule). rule.flags < 2 ^ 16) rules have) found)
  where
    by : (found : Option Rule) → ((rule : Rule) → found ≡ Some rule → rule.flags < 2 ^ 16) → unwrap_or (option_map (λ (rule : Rule). rule.flags) found) 0 < 2 ^ 16
    by None fits = omega arith
    by (Some rule) fits = fits rule refl

-- what is kept of a request has its widths
visit-tellable : (rec : Record) (ask : Ask) → HaveFlags rec.rules → IsTellableAsk ask → IsTellableVisit (visit_of rec ask)
visit-tellable rec ask have is = record { ip = is.0.ip; port = is.0.port; mv = omega (arith, is.1); flags = flags-fit rec.rules ask.from.ip have }

-- all after a request for the time
arrival-tellable : (rec : Record) (limits : Limits) (rows : List Row) (stamp : ℕ) (ask : Ask) (moment : ℕ) → HaveFlags rec.rules → IsTellableAsk ask → AreTellable rows
    → AreTellable (arrival_rows rec limits rows stamp ask moment)
arrival-tellable rec limits rows stamp ask moment have is are = by (is_ignored rec ask)
  where
    by : (ignores : Bool) → AreTellable (cond ignores rows (rows_at rec limits rows (drawn stamp moment) ask))
    by true = are
    by false =
        told-tellable (verdict_at rec limits rows (drawn stamp moment) ask) (rows_touched rec limits rows (drawn stamp moment) ask) ask (drawn stamp moment)
        (touched-tellable limits rows (visit_of rec ask) (drawn stamp moment) are (visit-tellable rec ask have is))

-- a server whose clients can be told, and whose rules have flags of their width
pub record IsTellableState (s : ServerState) : Type 0 where
  pub rows : AllByRecursion IsTellableRow s.rows
  pub flags : HaveFlags s.published.rules

-- it stays so
state-tellable : (s : ServerState) (op : Op) → IsTellableState s → IsTellableOp op → IsTellableState (state_after s op)
state-tellable s (Publish boxed) is fits = record { rows = is.rows; flags = fits }
state-tellable s (Arrive ask moment) is fits = record { rows = arrival-tellable s.published s.limits s.rows s.stamp ask moment is.flags fits is.rows; flags = is.flags }
state-tellable s (Look asked context) is fits = record { rows = is.rows; flags = is.flags }
state-tellable s (Read ask moment) is fits = record { rows = is.rows; flags = is.flags }
state-tellable s (Sweep moment) is fits = record { rows = swept-tellable s.limits s.rows moment is.rows; flags = is.flags }
state-tellable s (Stop stop) is fits = record { rows = is.rows; flags = is.flags }

-- so it is at each place of a history
pub states-tellable : (s : ServerState) (ops : List Op) (place : ℕ) → IsTellableState s → AreTellableOps ops → IsTellableState (state_at s ops place)
states-tellable s ops zero is fit = is
states-tellable s [] (suc place) is fit = is
states-tellable s (op ∷ ops) (suc place) is fit = states-tellable (state_after s op) ops place (state-tellable s op is fit.0) fit.1
