-- The NTP header: how 48 octets spell it, and which octets are one (RFC 5905, section 7.3, figure 8).
use Rattle.std.specs.Prelude.{◌≡◌, ℕ, ◌^◌, ◌<◌, not, nat_lt, if◌then◌else◌, List, [], ◌∷◌, ◌++◌, length, take, FitsSigned, Option, Some, None}
use Rattle.std.specs.List.{All}
use Rattle.std.specs.Int.{cast_unsigned, is_in_range, w8}
use Rattle.byteorder.specs.Endian.{big_bytes}
use Rattle.ntp_packet.specs.declared.leap_version_mode.TheConstants.{MIN_VERSION, CURRENT_VERSION, MODE_SYMMETRIC_ACTIVE, MODE_BROADCAST}
use Rattle.ntp_packet.specs.declared.packet.TheConstants.{HEADER_LEN}
use Rattle.ntp_packet.specs.declared.packet.Header.{Header}
use Rattle.ntp_packet.specs.declared.packet.PacketFault.{PacketFault}
use Rattle.ntp_packet.specs.declared.packet.PacketFault.TheVariants.{Short, BadVersion, BadMode}
use Rattle.ntp_packet.specs.FirstOctet.{first_octet}
pub use Rattle.ntp_packet.specs.FirstOctet.{leap_of, version_of, mode_of, IsPacketVersion, IsPacketMode}

-- the first octet of a header
abbrev pub first_octet_of : Header → ℕ
first_octet_of h = first_octet h.leap h.version h.mode

-- the first four octets: the first, the stratum, the poll and the precision, signed ones by two's complement
abbrev pub first_word_of : Header → List ℕ
first_word_of h = first_octet_of h ∷ h.stratum ∷ cast_unsigned w8 h.poll ∷ cast_unsigned w8 h.precision ∷ []

-- the 48 octets of a header: its fields in their order, the highest octet of each first
unfoldable pub spelled_header : Header → List ℕ
spelled_header h =
    first_word_of h
    ++ big_bytes 4 h.root_delay.0
    ++ big_bytes 4 h.root_disp.0
    ++ h.refid
    ++ big_bytes 8 h.reference.0
    ++ big_bytes 8 h.origin.0
    ++ big_bytes 8 h.receive.0
    ++ big_bytes 8 h.transmit.0

-- each field of a header has the width that its octets have
pub record Fits (h : Header) : Type 0 where
  pub leap : h.leap < 2 ^ 2
  pub version : h.version < 2 ^ 3
  pub mode : h.mode < 2 ^ 3
  pub stratum : h.stratum < 2 ^ 8
  pub poll : FitsSigned w8 h.poll
  pub precision : FitsSigned w8 h.precision
  pub root_delay : h.root_delay.0 < 2 ^ 32
  pub root_disp : h.root_disp.0 < 2 ^ 32
  pub refid_len : length h.refid ≡ 4
  pub refid : All (λ octet. octet < 2 ^ 8) h.refid
  pub reference : h.reference.0 < 2 ^ 64
  pub origin : h.origin.0 < 2 ^ 64
  pub receive : h.receive.0 < 2 ^ 64
  pub transmit : h.transmit.0 < 2 ^ 64

-- the first 48 of the octets are the spelling of the header, whose version and mode are a packet's
pub record IsPacket (octets : List ℕ) (h : Header) : Type 0 where
  pub fits : Fits h
  pub version : IsPacketVersion h.version
  pub mode : IsPacketMode h.mode
  pub spelled : take HEADER_LEN octets ≡ spelled_header h

-- our own rule: why octets are no packet, the first cause in the order of length, version and mode
abbrev pub fault_of : List ℕ → Option PacketFault
fault_of octets =
    if nat_lt (length octets) HEADER_LEN then Some Short
    else (if not (is_in_range MIN_VERSION CURRENT_VERSION (version_of octets)) then Some BadVersion
    else (if not (is_in_range MODE_SYMMETRIC_ACTIVE MODE_BROADCAST (mode_of octets)) then Some BadMode
    else None))
