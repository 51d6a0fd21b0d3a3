-- What becomes of a request for the time: our own rule, by restrict flags and rate limits after NTPsec's.
use Rattle.std.specs.Prelude.{ℕ, ◌+◌, ◌-◌, ◌*◌, ◌==◌, nat_le, max, Bool, true, not, ◌||◌, ◌&&◌, if◌then◌else◌, Option, Some, None, List}
use Rattle.access_rules.specs.declared.flags.TheConstants.{IGNORE, NOSERVE, NOTRUST, VERSION, LIMITED, KOD}
use Rattle.access_rules.specs.declared.rate.Rate.{Rate}
use Rattle.access_rules.specs.Flags.{has_flag}
use Rattle.access_rules.specs.Rates.{is_over}
use Rattle.access_rules.specs.Rules.{flags_of}
use Rattle.recency.specs.declared.limits.Limits.{Limits}
use Rattle.recency.specs.declared.row.Row.{Row}
use Rattle.recency.specs.declared.visit.Visit.{Visit}
use Rattle.recency.specs.Arrivals.{touched_rows}
use Rattle.recency.specs.Rows.{find_row, told_rows}
use Rattle.mac_keys.specs.Checks.{is_good}
use Rattle.sys_vars.specs.declared.published.Record.{Record}
use Rattle.server_core.specs.declared.class.Ask.{Ask}
use Rattle.ntp_packet.specs.declared.leap_version_mode.TheConstants.{MODE_CLIENT}
use Rattle.server_core.specs.declared.reply.Basis.{Basis}
use Rattle.server_core.specs.declared.verdict.Verdict.{Verdict}
use Rattle.server_core.specs.declared.verdict.Verdict.TheVariants.{Ignored, Limited, Rate as KissRate, Served}
use Rattle.ntp_packet.specs.declared.leap_version_mode.TheConstants.{CURRENT_VERSION}

-- the restrict flags of the sender
abbrev pub flags_on : Record → Ask → ℕ
flags_on rec ask = flags_of rec.rules ask.from.ip

-- the flags refuse every datagram of the sender
abbrev pub is_ignored : Record → Ask → Bool
is_ignored rec ask = has_flag (flags_on rec ask) IGNORE

-- the flags refuse the time: to all, to versions other than 4, or to those who give no good MAC
abbrev pub is_denied : ℕ → Ask → Bool
is_denied flags ask =
    has_flag flags NOSERVE
    || (has_flag flags VERSION && not (ask.version == CURRENT_VERSION))
    || (has_flag flags NOTRUST && not (is_good ask.auth))

-- the stamp that an arrival draws: its moment, or one more than the last stamp where that is later
abbrev pub drawn : ℕ → ℕ → ℕ
drawn stamp moment = max moment (stamp + 1)

-- what the client list keeps of a request: its mode and version are those of a client's
abbrev pub visit_of : Record → Ask → Visit
visit_of rec ask = record {
  ip = ask.from.ip;
  port = ask.from.port;
  mv = MODE_CLIENT + 8 * ask.version;
  flags = flags_on rec ask;
  rate = rec.rate;
}

-- what a reply is made of: the system and the clock of one record
abbrev pub basis_of : Record → Basis
basis_of rec = record { system = rec.system; clock = rec.clock }

-- a client was not told to slow down yet, or so long ago
abbrev pub is_due : ℕ → ℕ → Option ℕ → Bool
is_due spacing stamp None = true
is_due spacing stamp (Some told) = nat_le spacing (stamp - told)

-- the flags limit the client's rate, and its score is over
abbrev pub is_over_rate : ℕ → Rate → Row → Bool
is_over_rate flags rate row = has_flag flags LIMITED && is_over rate row.score

-- whether a client that is over its rate is told so
abbrev pub is_to_be_told : ℕ → Rate → ℕ → Row → Bool
is_to_be_told flags rate stamp row = has_flag flags KOD && is_due rate.spacing stamp row.told

-- the verdict where the flags do not deny the time: a client that is not listed is not limited
abbrev pub rate_verdict : Record → ℕ → ℕ → Option Row → Verdict
rate_verdict rec flags stamp None = Served (basis_of rec)
rate_verdict rec flags stamp (Some row) =
    if is_over_rate flags rec.rate row
    then (if is_to_be_told flags rec.rate stamp row then KissRate else Limited)
    else Served (basis_of rec)

-- the verdict on a request that drew this stamp, over the client list that it has touched
abbrev pub verdict_on : Record → List Row → ℕ → Ask → Verdict
verdict_on rec rows stamp ask =
    if is_denied (flags_on rec ask) ask then Ignored
    else rate_verdict rec (flags_on rec ask) stamp (find_row rows ask.from.ip)

-- the client list once a request that drew this stamp has touched it
abbrev pub rows_touched : Record → Limits → List Row → ℕ → Ask → List Row
rows_touched rec limits rows stamp ask = touched_rows limits rows (visit_of rec ask) stamp

-- the verdict on a request that drew this stamp
abbrev pub verdict_at : Record → Limits → List Row → ℕ → Ask → Verdict
verdict_at rec limits rows stamp ask = verdict_on rec (rows_touched rec limits rows stamp ask) stamp ask

-- a client that gets the kiss code is told at this stamp
abbrev pub rows_told : Verdict → List Row → Ask → ℕ → List Row
rows_told KissRate rows ask stamp = told_rows rows ask.from.ip stamp
rows_told Ignored rows ask stamp = rows
rows_told Limited rows ask stamp = rows
rows_told (Served basis) rows ask stamp = rows

-- the client list after a request that drew this stamp
abbrev pub rows_at : Record → Limits → List Row → ℕ → Ask → List Row
rows_at rec limits rows stamp ask =
    rows_told (verdict_at rec limits rows stamp ask) (rows_touched rec limits rows stamp ask) ask stamp

-- the verdict on a request that came at this moment, after this stamp: one that is ignored draws no stamp
abbrev pub arrival_verdict : Record → Limits → List Row → ℕ → Ask → ℕ → Verdict
arrival_verdict rec limits rows stamp ask moment =
    if is_ignored rec ask then Ignored else verdict_at rec limits rows (drawn stamp moment) ask

-- the client list after it
abbrev pub arrival_rows : Record → Limits → List Row → ℕ → Ask → ℕ → List Row
arrival_rows rec limits rows stamp ask moment =
    if is_ignored rec ask then rows else rows_at rec limits rows (drawn stamp moment) ask

-- the last stamp after it
abbrev pub arrival_stamp : Record → ℕ → Ask → ℕ → ℕ
arrival_stamp rec stamp ask moment = if is_ignored rec ask then stamp else drawn stamp moment
