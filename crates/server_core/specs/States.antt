-- The server as one object that takes one operation after another. Its order of tests is our own rule.
use Rattle.std.specs.Prelude.{ℕ, ◌-◌, ◌^◌, nat_le, Bool, true, false, ◌&&◌, not, if◌then◌else◌, Option, Some, None, List, [], ◌∷◌, length}
use Rattle.std.specs.List.{count_by}
use Rattle.std.specs.Option.{option_or}
use Rattle.fixed_time.specs.declared.time.Ntp64.{Ntp64}
use Rattle.recency.specs.declared.limits.Limits.{Limits}
use Rattle.recency.specs.declared.row.Row.{Row}
use Rattle.recency.specs.Sweeps.{swept_rows}
use Rattle.sys_vars.specs.Answers.{answer_of}
use Rattle.sys_vars.specs.declared.published.Record.{Record}
use Rattle.server_core.specs.declared.op.Op.{Op}
use Rattle.server_core.specs.declared.op.Op.TheVariants.{Publish, Arrive, Look, Read, Sweep, Stop}
use Rattle.server_core.specs.declared.op.Stop.{Stop as Stopping}
use Rattle.server_core.specs.declared.op.Why.TheVariants.{Entries, Publications}
use Rattle.server_core.specs.declared.op.TheConstants.{MAX_ENTRIES, MAX_PUBLICATIONS}
use Rattle.server_core.specs.declared.step.Reply.{Reply}
use Rattle.server_core.specs.declared.step.Reply.TheVariants.{Published, Time, Looked, Read as ReadReplied, Swept, Stopped}
use Rattle.server_core.specs.declared.step.StepFault.{StepFault}
use Rattle.server_core.specs.declared.step.StepFault.TheVariants.{Ended, Full, ClockEnd}
use Rattle.server_core.specs.ReadReplies.{read_reply, read_stamp}
use Rattle.server_core.specs.Verdicts.{arrival_rows, arrival_stamp, arrival_verdict}

-- a server between two operations: what is published, the client list (oldest first) with its limits, the last stamp,
-- and the time at which its clocks begin
pub record ServerState : Type 0 where
  pub published : Record
  pub rows : List Row
  pub stamp : ℕ
  pub limits : Limits
  pub origin : Ntp64

-- the record that an operation publishes, or else this one
abbrev pub record_of : Op → Record → Record
record_of (Publish boxed) before = boxed.value
record_of (Arrive ask moment) before = before
record_of (Look asked context) before = before
record_of (Read ask moment) before = before
record_of (Sweep moment) before = before
record_of (Stop stop) before = before

-- the client list after an operation
abbrev pub rows_after : ServerState → Op → List Row
rows_after s (Arrive ask moment) = arrival_rows s.published s.limits s.rows s.stamp ask moment
rows_after s (Sweep moment) = swept_rows s.limits s.rows moment
rows_after s (Publish rec) = s.rows
rows_after s (Look asked context) = s.rows
rows_after s (Read ask moment) = s.rows
rows_after s (Stop stop) = s.rows

-- the last stamp after an operation
abbrev pub stamp_after : ServerState → Op → ℕ
stamp_after s (Arrive ask moment) = arrival_stamp s.published s.stamp ask moment
stamp_after s (Read ask moment) = read_stamp (read_reply s.published s.rows s.stamp ask moment) s.stamp moment
stamp_after s (Sweep moment) = s.stamp
stamp_after s (Publish rec) = s.stamp
stamp_after s (Look asked context) = s.stamp
stamp_after s (Stop stop) = s.stamp

-- the server after an operation
abbrev pub state_after : ServerState → Op → ServerState
state_after s op = record {
  published = record_of op s.published;
  rows = rows_after s op;
  stamp = stamp_after s op;
  limits = s.limits;
  origin = s.origin;
}

-- what an operation is answered
abbrev pub reply_to : ServerState → Op → Reply
reply_to s (Publish rec) = Published
reply_to s (Arrive ask moment) = Time (arrival_verdict s.published s.limits s.rows s.stamp ask moment)
reply_to s (Look asked context) = Looked (answer_of s.published asked context)
reply_to s (Read ask moment) = ReadReplied (read_reply s.published s.rows s.stamp ask moment)
reply_to s (Sweep moment) = Swept (length s.rows - length (swept_rows s.limits s.rows moment))
reply_to s (Stop stop) = Stopped

-- the stop that an operation is
abbrev pub stop_of : Op → Option Stopping
stop_of (Stop stop) = Some stop
stop_of (Publish rec) = None
stop_of (Arrive ask moment) = None
stop_of (Look asked context) = None
stop_of (Read ask moment) = None
stop_of (Sweep moment) = None

-- the stop that stands in a journal
abbrev pub stop_in : List Op → Option Stopping
stop_in [] = None
stop_in (op ∷ ops) = option_or (stop_of op) (stop_in ops)

-- an operation that publishes
abbrev pub is_publish : Op → Bool
is_publish (Publish rec) = true
is_publish (Arrive ask moment) = false
is_publish (Look asked context) = false
is_publish (Read ask moment) = false
is_publish (Sweep moment) = false
is_publish (Stop stop) = false

-- an operation that stops the server
abbrev pub is_stop : Op → Bool
is_stop (Stop stop) = true
is_stop (Publish rec) = false
is_stop (Arrive ask moment) = false
is_stop (Look asked context) = false
is_stop (Read ask moment) = false
is_stop (Sweep moment) = false

-- an operation that draws a stamp, or may
abbrev pub may_draw : Op → Bool
may_draw (Arrive ask moment) = true
may_draw (Publish rec) = false
may_draw (Look asked context) = false
may_draw (Read ask moment) = true
may_draw (Sweep moment) = false
may_draw (Stop stop) = false

-- how many operations of a journal publish
abbrev pub publications_in : List Op → ℕ
publications_in ops = count_by is_publish ops

-- the limits that an operation meets, in the order of the tests
abbrev pub limit_met : List Op → ℕ → Op → Option StepFault
limit_met journal stamp op =
    if not (is_stop op) && nat_le MAX_ENTRIES (length journal) then Some (Full Entries)
    else (if is_publish op && nat_le MAX_PUBLICATIONS (publications_in journal) then Some (Full Publications)
    else (if may_draw op && nat_le (2 ^ 64 - 1) stamp then Some ClockEnd
    else None))

-- why an operation is refused where this stop stands in the journal, or none
abbrev pub refusal_after : Option Stopping → List Op → ℕ → Op → Option StepFault
refusal_after (Some stop) journal stamp op = Some (Ended stop)
refusal_after None journal stamp op = limit_met journal stamp op

-- why an operation is refused, whatever the memory: the first cause in the order of the tests
abbrev pub refusal_of : List Op → ℕ → Op → Option StepFault
refusal_of journal stamp op = refusal_after (stop_in journal) journal stamp op
