-- What a settle makes of the system's values (RFC 5905, section 11.2.3 and appendix A.5.5.5; RFC 9327, section 3.1; which values each case keeps is our own rule).
use Rattle.std.specs.Prelude.{ℕ, ℤ, ◌+◌, ◌==◌, if◌then◌else◌, min, take, unsigned_abs, List, codes}
use Rattle.discipline.specs.declared.feedback.Change.{Change}
use Rattle.discipline.specs.declared.feedback.Change.TheVariants.{Ignored, Adjusted, Stepped, Panic}
use Rattle.discipline.specs.declared.soft_clock.SoftClock.{SoftClock}
use Rattle.discipline.specs.declared.state.State.{State}
use Rattle.discipline.specs.declared.state.State.TheVariants.{Nset, Fset, Spik, Freq, Sync}
use Rattle.discipline.specs.Feedback.{LoopState}
use Rattle.fixed_time.specs.declared.time.Ntp64.{Ntp64}
use Rattle.fixed_time.specs.declared.time.Span.{Span}
use Rattle.fixed_time.specs.declared.time.TheConstants.{MAX_DISPERSION}
use Rattle.md5.specs.Md5.{md5}
use Rattle.mode6_frame.specs.declared.events.TheConstants.{CLOCK_SYNCHRONIZED, FREQUENCY_STEPPED, FREQUENCY_TRAINING, MAX_EVENTS, NO_DRIFT_FILE, NO_SYSTEM_PEER, PANIC_STOP, SPIKE_DETECTED}
use Rattle.mode6_frame.specs.declared.sources.TheConstants.{NO_SOURCE, UDP_NTP}
use Rattle.net_addr.specs.declared.addr.Ip.{Ip}
use Rattle.net_addr.specs.declared.addr.Ip.TheVariants.{V4, V6}
use Rattle.ntp_packet.specs.declared.leap_version_mode.TheConstants.{LEAP_UNSYNCHRONIZED}
use Rattle.ntp_packet.specs.declared.packet.TheConstants.{MAX_SYNCHRONIZED_STRATUM, UNSYNCHRONIZED_STRATUM}
use Rattle.select_cluster.specs.declared.combining.Combined.{Combined}
use Rattle.sys_vars.specs.declared.system.System.{System}
use Rattle.associations.specs.Showing.{estimate_shown}
use Rattle.associations.specs.Taking.{time_at}
use Rattle.associations.specs.declared.association.Association.{Association}

-- the values of a system, without what is known of their widths
pub record SystemValues : Type 0 where
  pub leap : ℕ
  pub stratum : ℕ
  pub precision : ℤ
  pub root_delay : ℕ
  pub root_disp : ℕ
  pub refid : List ℕ
  pub reference : Ntp64
  pub at : ℕ
  pub peer : ℕ
  pub poll : ℕ
  pub offset : Span
  pub freq : ℤ
  pub jitter : ℕ
  pub state : State
  pub source : ℕ
  pub events : ℕ
  pub code : ℕ

abbrev pub values_of : System → SystemValues
values_of system = record {
  leap = system.leap;
  stratum = system.stratum;
  precision = system.precision;
  root_delay = system.root_delay;
  root_disp = system.root_disp;
  refid = system.refid;
  reference = system.reference;
  at = system.at;
  peer = system.peer;
  poll = system.poll;
  offset = system.offset;
  freq = system.freq;
  jitter = system.jitter;
  state = system.state;
  source = system.source;
  events = system.events;
  code = system.code;
}

-- after an event: its code is the last one, and events are counted up to 15
abbrev pub system_event : ℕ → SystemValues → SystemValues
system_event code old = record old { events = min (old.events + 1) MAX_EVENTS; code = code }

-- the code of the event that the discipline enters a state (table 4)
abbrev pub event_of : State → ℕ
event_of Nset = NO_DRIFT_FILE
event_of Fset = FREQUENCY_STEPPED
event_of Spik = SPIKE_DETECTED
event_of Freq = FREQUENCY_TRAINING
event_of Sync = CLOCK_SYNCHRONIZED

-- the discipline is in this state, which is an event where it was in another
abbrev pub in_state : State → SystemValues → SystemValues
in_state state old =
    if event_of state == event_of old.state then old else system_event (event_of state) (record old { state = state })

-- no majority: there is no system peer, and nothing else changes
abbrev pub unselected : SystemValues → SystemValues
unselected old = system_event NO_SYSTEM_PEER (record old { peer = 0 })

-- the leap indicator that comes from a server: below one of stratum 15 no clock is synchronized
abbrev pub leap_below : Association → ℕ
leap_below server = if server.stratum == MAX_SYNCHRONIZED_STRATUM then LEAP_UNSYNCHRONIZED else server.leap

-- the reference identifier of a server: its IPv4 address, or the first four octets of the MD5 digest of its IPv6 address (RFC 5905, section 7.3)
abbrev pub refid_of : Ip → List ℕ
refid_of (V4 octets) = octets
refid_of (V6 octets) = take 4 (md5 octets)

-- the values that come from the system peer and from what the survivors combine to, by the clock at a moment
abbrev pub adjusted : Association → Combined → SoftClock → ℕ → SystemValues → SystemValues
adjusted server combined clock moment old = record old {
  leap = leap_below server;
  stratum = server.stratum + 1;
  root_delay = server.root_delay + (estimate_shown server.estimate).delay;
  root_disp = server.root_disp + (estimate_shown server.estimate).disp + unsigned_abs combined.offset.0 + combined.jitter;
  refid = refid_of server.line.addr.ip;
  reference = time_at clock moment;
  at = moment;
  peer = combined.system;
  poll = server.line.poll;
  offset = combined.offset;
  freq = clock.freq;
  jitter = combined.jitter;
  source = UDP_NTP;
}

-- the clock was stepped: it is not synchronized until it is measured again; peer, offset, jitter and poll stay
abbrev pub stepped : SoftClock → ℕ → SystemValues → SystemValues
stepped clock moment old = record old {
  leap = LEAP_UNSYNCHRONIZED;
  stratum = UNSYNCHRONIZED_STRATUM;
  root_delay = 0;
  root_disp = MAX_DISPERSION;
  refid = codes "STEP";
  reference = record { 0 = 0 };
  at = moment;
  freq = clock.freq;
  source = NO_SOURCE;
}

-- the values after what the discipline did with the combined offset, by the loop as it is then
abbrev pub after_change : Change → Association → Combined → LoopState → ℕ → SystemValues → SystemValues
after_change Panic server combined engine moment old = system_event PANIC_STOP old
after_change Ignored server combined engine moment old = in_state engine.state old
after_change Adjusted server combined engine moment old =
    in_state engine.state (adjusted server combined engine.clock moment old)
after_change Stepped server combined engine moment old = in_state engine.state (stepped engine.clock moment old)
