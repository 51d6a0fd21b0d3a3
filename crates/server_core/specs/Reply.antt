-- The reply to a client's request (RFC 5905, sections 7.3 and 9.2; the rounding is our own rule).
use Rattle.std.specs.Prelude.{◌≡◌, ◌⊎◌, ℕ, ◌+◌, ◌-◌, ◌==◌, min, max, if◌then◌else◌, List, [], ◌++◌, replicate, Option, None, Some, IsSome}
use Rattle.fixed_time.specs.Time.{to_short_of, drift_of}
use Rattle.fixed_time.specs.declared.time.TheConstants.{PHI, MAX_DISPERSION}
use Rattle.discipline.specs.SoftClock.{clock_time}
use Rattle.ntp_packet.specs.declared.packet.Header.{Header}
use Rattle.ntp_packet.specs.declared.packet.TheConstants.{HEADER_LEN}
use Rattle.ntp_packet.specs.Packet.{spelled_header}
use Rattle.mac_keys.specs.declared.checking.Auth.{Auth}
use Rattle.mac_keys.specs.declared.checking.Auth.TheVariants.{Absent, Good, Bad}
use Rattle.mac_keys.specs.declared.keys.Key.{Key}
use Rattle.mac_keys.specs.Tables.{key_of}
use Rattle.ntp_trailer.specs.declared.parts.TheConstants.{KEY_ID_LEN}
use Rattle.ntp_trailer.specs.declared.parts.Trailer.{Trailer as FieldsAndMac}
use Rattle.ntp_trailer.specs.Trailers.{HasTrailer}
use Rattle.ntp_trailer.specs.Authentic.{IsAuth, spelled_mac}
use Rattle.sys_vars.specs.declared.system.System.{System}
use Rattle.sys_vars.specs.declared.system.TheConstants.{PRECISION}
use Rattle.server_core.specs.declared.class.Ask.{Ask}
use Rattle.server_core.specs.declared.kiss.TheConstants.{RATE}
use Rattle.server_core.specs.declared.reply.Basis.{Basis}
use Rattle.ntp_packet.specs.declared.leap_version_mode.TheConstants.{LEAP_UNSYNCHRONIZED, MODE_SERVER}
use Rattle.ntp_packet.specs.declared.packet.TheConstants.{UNSYNCHRONIZED_STRATUM}

-- the stratum as a packet has it: 0 for a server that is not synchronized
abbrev pub shown_stratum : ℕ → ℕ
shown_stratum stratum = if stratum == UNSYNCHRONIZED_STRATUM then 0 else stratum

-- the root dispersion at a moment: it has grown since the system's values were taken, up to 16 seconds
abbrev pub root_dispersion_at : System → ℕ → ℕ
root_dispersion_at system moment = min MAX_DISPERSION (system.root_disp + drift_of (moment - system.at) PHI)

-- The header of the reply to a request that came at one moment and is answered at another: leap,
-- precision, reference identifier and reference time are the system's, version and poll the
-- request's, and its transmit time comes back as the origin.
unfoldable pub reply_header : Basis → Ask → ℕ → ℕ → Header
reply_header basis ask came sent = record {
  leap = basis.system.leap;
  version = ask.version;
  mode = MODE_SERVER;
  stratum = shown_stratum basis.system.stratum;
  poll = ask.poll;
  precision = basis.system.precision;
  root_delay = record { 0 = to_short_of basis.system.root_delay };
  root_disp = record { 0 = to_short_of (root_dispersion_at basis.system came) };
  refid = basis.system.refid;
  reference = basis.system.reference;
  origin = ask.transmit;
  receive = record { 0 = clock_time basis.clock came };
  transmit = record { 0 = clock_time basis.clock (max came sent) };
}

-- the MAC of some octets with this key, and nothing without a key
abbrev pub mac_with : Option Key → List ℕ → List ℕ
mac_with (Some key) octets = spelled_mac key octets
mac_with None octets = []

-- What follows the header of a reply, by what the MAC of the request shows: a MAC with the same key,
-- a crypto-NAK, or nothing.
abbrev pub reply_end : List Key → Auth → List ℕ → List ℕ
reply_end keys Absent header = []
reply_end keys (Good id) header = mac_with (key_of keys id) header
reply_end keys Bad header = replicate KEY_ID_LEN 0

-- some octets, and what follows them in a reply
abbrev pub ended : List Key → Auth → List ℕ → List ℕ
ended keys auth header = header ++ reply_end keys auth header

-- the octets of the reply to a request that came at one moment and is answered at another: a header, and behind it what the MAC of the request is due
unfoldable pub time_reply_of : Basis → Ask → List Key → ℕ → ℕ → List ℕ
time_reply_of basis ask keys came sent =
    ended keys ask.auth (spelled_header (reply_header basis ask came sent))

-- the key of a good MAC is there
abbrev pub HasKey : List Key → Auth → Type 0
HasKey keys Absent = Unit {0}
HasKey keys (Good id) = IsSome (key_of keys id)
HasKey keys Bad = Unit {0}

-- how many octets a reply has: those of the header; and those of a key id, with a digest of 16 or
-- 20 octets where the request's MAC is good, and alone where it is bad
abbrev pub IsReplyLength : Auth → ℕ → Type 0
IsReplyLength Absent count = count ≡ HEADER_LEN
IsReplyLength (Good id) count =
    (count ≡ HEADER_LEN + KEY_ID_LEN + 16) ⊎ (count ≡ HEADER_LEN + KEY_ID_LEN + 20)
IsReplyLength Bad count = count ≡ HEADER_LEN + KEY_ID_LEN

-- the octets are a header and a MAC, and the MAC shows this; or a header alone, where there is no MAC
pub record Shows (keys : List Key) (auth : Auth) (octets : List ℕ) : Type 0 where
  pub trailer : FieldsAndMac
  pub has : HasTrailer octets trailer
  pub shown : IsAuth keys octets trailer auth

-- The header of the kiss code RATE (RFC 5905, section 7.4): it asks the client to slow down, tells no
-- time, and gives back the request's own transmit time throughout (our own rule).
unfoldable pub rate_header : Ask → Header
rate_header ask = record {
  leap = LEAP_UNSYNCHRONIZED;
  version = ask.version;
  mode = MODE_SERVER;
  stratum = 0;
  poll = ask.poll;
  precision = PRECISION;
  root_delay = record { 0 = 0 };
  root_disp = record { 0 = 0 };
  refid = RATE;
  reference = record { 0 = 0 };
  origin = ask.transmit;
  receive = ask.transmit;
  transmit = ask.transmit;
}

-- the octets of the kiss code RATE, which has no MAC
unfoldable pub rate_reply_of : Ask → List ℕ
rate_reply_of ask = spelled_header (rate_header ask)
