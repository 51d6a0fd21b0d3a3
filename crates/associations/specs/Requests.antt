-- A request to a server (RFC 5905, sections 7.3 and 13.2; that it tells nothing of our clock but the transmit timestamp and the precision is our own rule).
use Rattle.std.specs.Prelude.{ℕ, ◌==◌, if◌then◌else◌, List, [], ◌++◌, replicate, Option, None, Some, pos}
use Rattle.access_rules.specs.declared.servers.ServerLine.{ServerLine}
use Rattle.fixed_time.specs.declared.time.Ntp64.{Ntp64}
use Rattle.mac_keys.specs.declared.keys.Key.{Key}
use Rattle.mac_keys.specs.Tables.{key_of}
use Rattle.ntp_packet.specs.declared.leap_version_mode.TheConstants.{CURRENT_VERSION, MODE_CLIENT}
use Rattle.ntp_packet.specs.declared.packet.Header.{Header}
use Rattle.ntp_packet.specs.Packet.{spelled_header}
use Rattle.ntp_trailer.specs.Authentic.{spelled_mac}
use Rattle.sys_vars.specs.declared.system.TheConstants.{PRECISION}

-- the header of a request: the current version, a client's mode, the line's poll, our precision and the transmit timestamp; all else is 0
unfoldable pub request_header : ServerLine → Ntp64 → Header
request_header line transmit = record {
  leap = 0;
  version = CURRENT_VERSION;
  mode = MODE_CLIENT;
  stratum = 0;
  poll = pos line.poll;
  precision = PRECISION;
  root_delay = record { 0 = 0 };
  root_disp = record { 0 = 0 };
  refid = replicate 4 0;
  reference = record { 0 = 0 };
  origin = record { 0 = 0 };
  receive = record { 0 = 0 };
  transmit = transmit;
}

-- the key with this id, if the table has it; id 0 is none
abbrev pub key_by : List Key → ℕ → Option Key
key_by keys id = if id == 0 then None else key_of keys id

-- the MAC of some octets with this key, and nothing without a key
abbrev pub mac_by : Option Key → List ℕ → List ℕ
mac_by (Some key) octets = spelled_mac key octets
mac_by None octets = []

-- the octets of a request: its header, and the MAC of the line's key
unfoldable pub request_of : ServerLine → List Key → Ntp64 → List ℕ
request_of line keys transmit =
    spelled_header (request_header line transmit) ++ mac_by (key_by keys line.key) (spelled_header (request_header line transmit))
