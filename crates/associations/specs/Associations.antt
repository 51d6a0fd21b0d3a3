-- What is kept of a server, and what a request to it changes (RFC 5905, sections 9.1 and 13; RFC 9327, section 3.2; the values before the first reply are our own rule).
use Rattle.std.specs.Prelude.{ℕ, ◌≤◌, ◌+◌, ◌*◌, ◌%◌, ◌^◌, ◌==◌, ◌&&◌, min, pos, Bool, false, not, if◌then◌else◌, List, length, None, Some, codes}
use Rattle.std.specs.List.{All}
use Rattle.access_rules.specs.declared.servers.ServerLine.{ServerLine}
use Rattle.clock_filter.specs.Filtering.{empty_state}
use Rattle.fixed_time.specs.declared.time.Ntp64.{Ntp64}
use Rattle.associations.specs.declared.association.Association.{Association}
use Rattle.mode6_frame.specs.declared.events.TheConstants.{UNREACHABLE, MAX_EVENTS, NO_EVENT}
use Rattle.mode6_frame.specs.declared.selections.TheConstants.{REJECTED}
use Rattle.ntp_packet.specs.declared.leap_version_mode.TheConstants.{LEAP_UNSYNCHRONIZED}
use Rattle.ntp_packet.specs.declared.packet.TheConstants.{UNSYNCHRONIZED_STRATUM}
use Rattle.sys_vars.specs.declared.peer_views.TheConstants.{MAX_PEERS}

-- the numbers of an association have the widths of its status word: the leap indicator two bits, the selection code three, events and code four; its stratum is at most that of a clock that is not synchronized
pub record IsAssociation (server : Association) : Type 0 where
  pub leap : server.leap ≤ 3
  pub stratum : server.stratum ≤ UNSYNCHRONIZED_STRATUM
  pub selection : server.selection ≤ 7
  pub events : server.events ≤ MAX_EVENTS
  pub code : server.code ≤ 15

-- the associations of at most 32 servers
pub record ArePeers (peers : List Association) : Type 0 where
  pub few : length peers ≤ MAX_PEERS
  pub each : All IsAssociation peers

-- before its first reply: not synchronized, refid INIT, an empty filter without an estimate, all else 0
abbrev pub opened : ServerLine → Association
opened line = record {
  line = line;
  pmode = 0;
  ppoll = pos 0;
  leap = LEAP_UNSYNCHRONIZED;
  stratum = UNSYNCHRONIZED_STRATUM;
  precision = pos 0;
  root_delay = 0;
  root_disp = 0;
  refid = codes "INIT";
  reference = record { 0 = 0 };
  received = record { 0 = 0 };
  transmit = record { 0 = 0 };
  pending = None;
  reach = 0;
  auth_ok = false;
  filter = empty_state;
  estimate = None;
  selection = REJECTED;
  events = 0;
  code = NO_EVENT;
}

-- after an event: its code is the last one, and events are counted up to 15
abbrev pub with_event : ℕ → Association → Association
with_event code server = record server { events = min (server.events + 1) MAX_EVENTS; code = code }

-- the reach register is shifted left by one bit of its eight
abbrev pub reach_after_request : ℕ → ℕ
reach_after_request reach = reach * 2 % 2 ^ 8

-- by that it becomes empty, and was not
abbrev pub runs_empty : ℕ → Bool
runs_empty reach = not (reach == 0) && (reach_after_request reach == 0)

-- a request went out with this transmit timestamp, for which a reply is awaited
abbrev pub awaiting : Association → Ntp64 → Association
awaiting server transmit = record server { pending = Some transmit; reach = reach_after_request server.reach }

-- a server after a request: a reply is awaited, the reach register has shifted, and where it ran empty the server is no longer reachable
abbrev pub asked : Association → Ntp64 → Association
asked server transmit = if runs_empty server.reach then with_event UNREACHABLE (awaiting server transmit) else awaiting server transmit
