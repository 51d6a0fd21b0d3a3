-- What a server publishes first, by its configuration: our own rule, after RFC 5905, sections 7.3 and 11.1.
use Rattle.std.specs.Prelude.{ℕ, ◌==◌, if◌then◌else◌, ℤ, pos, Option, None, Some, List, [], ◌∷◌, codes}
use Rattle.std.specs.Option.{unwrap_or}
use Rattle.std.proofs.Common.{lit≤}
use Rattle.conf_file.specs.declared.conf.Conf.{Conf}
use Rattle.discipline.specs.declared.soft_clock.SoftClock.{SoftClock}
use Rattle.discipline.specs.declared.state.State.TheVariants.{Fset}
use Rattle.fixed_time.specs.declared.time.Ntp64.{Ntp64}
use Rattle.mode6_frame.specs.declared.events.TheConstants.{FREQUENCY_STEPPED}
use Rattle.mode6_frame.specs.declared.sources.TheConstants.{LOCAL_NET}
use Rattle.server_core.specs.States.{ServerState}
use Rattle.sys_vars.specs.Opening.{opening_system}
use Rattle.sys_vars.specs.declared.published.Record.{Record}
use Rattle.sys_vars.specs.declared.system.System.{System}

-- the reference identifier of a server of its own clock, by its stratum: that of an uncalibrated local clock at stratum 1, and
-- else the address of the local clock
abbrev pub local_refid : ℕ → List ℕ
local_refid stratum = if stratum == 1 then codes "LOCL" else 127 ∷ 0 ∷ 0 ∷ 1 ∷ []

-- a system that is synchronized to its own clock, at this stratum
abbrev pub locally : Option ℕ → System → System
locally None system = system
locally (Some stratum) system = record system {
  leap = 0;
  stratum = stratum;
  root_disp = 0;
  refid = local_refid stratum;
  source = LOCAL_NET;
  leap_in = lit≤ tt;
  source_in = lit≤ tt;
}

-- a system whose clock begins with this frequency
abbrev pub with_frequency : Option ℤ → System → System
with_frequency None system = system
with_frequency (Some freq) system = record system { freq = freq; state = Fset; code = FREQUENCY_STEPPED; code_in = lit≤ tt }

-- the clock of a server whose origin is this time, and that begins with this frequency, or with none
abbrev pub opening_clock : Ntp64 → Option ℤ → SoftClock
opening_clock origin freq = record { base = 0; ntp = origin; freq = unwrap_or freq (pos 0); slew = pos 0 }

-- the first record of a server of this configuration
abbrev pub first_record : Conf → Ntp64 → Record
first_record conf origin = record {
  epoch = 0;
  system = locally conf.local (with_frequency conf.freq opening_system);
  peers = [];
  rules = conf.rules;
  rate = conf.rate;
  clock = opening_clock origin conf.freq;
}

-- a server of this configuration that nobody has asked yet
abbrev pub first_state : Conf → Ntp64 → ServerState
first_state conf origin = record {
  published = first_record conf origin;
  rows = [];
  stamp = 0;
  limits = conf.limits;
  origin = origin;
}
