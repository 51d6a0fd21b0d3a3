-- What a server publishes before it knows the time: our own rule, after RFC 5905, sections 7.3 and 11.1.
use Rattle.std.specs.Prelude.{◌≡◌, List, [], codes, pos}
use Rattle.std.proofs.Common.{lit≤}
use Rattle.access_rules.specs.Rates.{plain_rate}
use Rattle.access_rules.specs.Rules.{IsPlain}
use Rattle.access_rules.specs.declared.rules.Rule.{Rule}
use Rattle.fixed_time.specs.declared.time.Ntp64.{Ntp64}
use Rattle.fixed_time.specs.declared.time.TheConstants.{MAX_DISPERSION}
use Rattle.mode6_frame.specs.declared.events.TheConstants.{NO_DRIFT_FILE}
use Rattle.mode6_frame.specs.declared.sources.TheConstants.{NO_SOURCE}
use Rattle.ntp_packet.specs.declared.leap_version_mode.TheConstants.{LEAP_UNSYNCHRONIZED}
use Rattle.ntp_packet.specs.declared.packet.TheConstants.{UNSYNCHRONIZED_STRATUM}
use Rattle.discipline.specs.declared.state.State.TheVariants.{Nset}
use Rattle.sys_vars.specs.declared.published.Record.{Record}
use Rattle.sys_vars.specs.declared.system.System.{System}
use Rattle.sys_vars.specs.declared.system.TheConstants.{PRECISION}

-- the system of a server that knows no time yet: not synchronized, with a dispersion of 16 seconds
abbrev pub opening_system : System
opening_system = record {
  leap = LEAP_UNSYNCHRONIZED;
  stratum = UNSYNCHRONIZED_STRATUM;
  precision = PRECISION;
  root_delay = 0;
  root_disp = MAX_DISPERSION;
  refid = codes "INIT";
  reference = record { 0 = 0 };
  at = 0;
  peer = 0;
  poll = 6;
  offset = record { 0 = pos 0 };
  freq = pos 0;
  jitter = 0;
  state = Nset;
  source = NO_SOURCE;
  events = 1;
  code = NO_DRIFT_FILE;
  leap_in = lit≤ tt;
  source_in = lit≤ tt;
  events_in = lit≤ tt;
  code_in = lit≤ tt;
}

-- the first record of a server over these rules: that system, no peers, the plain rate, and a clock that counts from the origin
abbrev pub opening_record : Ntp64 → List Rule → Record
opening_record origin rules = record {
  epoch = 0;
  system = opening_system;
  peers = [];
  rules = rules;
  rate = plain_rate;
  clock = record { base = 0; ntp = origin; freq = pos 0; slew = pos 0 };
}

-- the first record of a server, whose rules refuse nobody
abbrev pub IsOpening : Ntp64 → Record → Type 0
IsOpening origin rec = (rules : List Rule) × IsPlain rules × (rec ≡ opening_record origin rules)
