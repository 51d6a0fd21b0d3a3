-- What an accepted reply makes of an association (RFC 5905, sections 8, 9.2 and 10; RFC 9327, section 3.2).
use Rattle.std.specs.Prelude.{ℕ, ◌*◌, ◌^◌, ◌==◌, Bool, if◌then◌else◌, Option, None, Some, is_some, Result, Ok, Err, bit_or}
use Rattle.clock_filter.specs.Filtering.{FilterState, estimate_after, filter_after}
use Rattle.clock_filter.specs.declared.estimates.Estimate.{Estimate}
use Rattle.clock_filter.specs.declared.samples.Sample.{Sample}
use Rattle.fixed_time.specs.declared.time.Ntp64.{Ntp64}
use Rattle.mac_keys.specs.Checks.{is_good}
use Rattle.mode6_frame.specs.declared.events.TheConstants.{REACHABLE}
use Rattle.ntp_trailer.specs.declared.packet.JudgedPacket.{JudgedPacket}
use Rattle.associations.specs.Associations.{with_event}
use Rattle.associations.specs.Judging.{first_fault_of, refused}
use Rattle.associations.specs.Samples.{sample_by}
use Rattle.associations.specs.declared.association.Association.{Association}
use Rattle.associations.specs.declared.judging.ReplyFault.{ReplyFault}

-- a server with the fields of a reply's header, its times in 32.32 seconds; its transmit timestamp is the last one taken
abbrev pub with_header : Association → JudgedPacket → Association
with_header server reply = record server {
  pmode = reply.header.mode;
  ppoll = reply.header.poll;
  leap = reply.header.leap;
  stratum = reply.header.stratum;
  precision = reply.header.precision;
  root_delay = reply.header.root_delay.0 * 2 ^ 16;
  root_disp = reply.header.root_disp.0 * 2 ^ 16;
  refid = reply.header.refid;
  reference = reply.header.reference;
  transmit = reply.header.transmit;
  auth_ok = is_good reply.auth;
}

-- bit 0 of the reach register is set
abbrev pub reach_after_reply : ℕ → ℕ
reach_after_reply reach = bit_or reach 1

-- a server with a reply that came at this destination timestamp: no request waits any more
abbrev pub with_reply : Association → JudgedPacket → Ntp64 → Association
with_reply server reply destination =
    record (with_header server reply) { received = destination; pending = None; reach = reach_after_reply server.reach }

-- a server with a reply that is taken over: where the reach register was empty, it has become reachable
abbrev pub taken_over : Association → JudgedPacket → Ntp64 → Association
taken_over server reply destination =
    if server.reach == 0 then with_event REACHABLE (with_reply server reply destination) else with_reply server reply destination

-- the filter gives an estimate after one more sample
abbrev pub gives_estimate : FilterState → Sample → ℕ → Bool
gives_estimate filter sample moment = is_some (estimate_after filter sample moment)

-- the estimate that stands: the new one, or else the old one
abbrev pub newer : Option Estimate → Option Estimate → Option Estimate
newer None old = old
newer (Some new) old = Some new

-- the association after one more sample
abbrev pub sampled : Association → Sample → ℕ → Association
sampled server sample moment = record server {
  filter = filter_after server.filter sample moment;
  estimate = newer (estimate_after server.filter sample moment) server.estimate;
}

-- the association after a reply that was accepted at a moment, when our clock showed the destination timestamp
abbrev pub accepted : Association → JudgedPacket → Ntp64 → ℕ → Association
accepted server reply destination moment =
    sampled (taken_over server reply destination) (sample_by reply.header destination moment) moment

-- the sample of a reply gives an estimate
abbrev pub is_fresh : Association → JudgedPacket → Ntp64 → ℕ → Bool
is_fresh server reply destination moment = gives_estimate server.filter (sample_by reply.header destination moment) moment

-- the association after a reply: refused for its first fault, or accepted
abbrev pub judged_by : Option ReplyFault → Association → JudgedPacket → Ntp64 → ℕ → Association
judged_by None server reply destination moment = accepted server reply destination moment
judged_by (Some fault) server reply destination moment = refused fault server

abbrev pub judged : Association → JudgedPacket → Ntp64 → ℕ → Association
judged server reply destination moment = judged_by (first_fault_of server reply) server reply destination moment

-- the verdict on a reply: the fault, or whether there is a new estimate
abbrev pub verdict_by : Option ReplyFault → Bool → Result Bool ReplyFault
verdict_by None fresh = Ok fresh
verdict_by (Some fault) fresh = Err fault

abbrev pub verdict_of : Association → JudgedPacket → Ntp64 → ℕ → Result Bool ReplyFault
verdict_of server reply destination moment = verdict_by (first_fault_of server reply) (is_fresh server reply destination moment)
