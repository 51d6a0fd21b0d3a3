-- Worked octets: a client's request and an unsynchronized server's reply (RFC 5905, sections 7.3 and 7.4).
use Rattle.std.proofs.Common.{◌≡◌, ℕ, pos, negsuc, List, [], ◌∷◌, ◌++◌, take, drop, Some, None, refl}
use Rattle.ntp_packet.specs.declared.leap_version_mode.TheConstants.{LEAP_UNSYNCHRONIZED, MIN_VERSION, CURRENT_VERSION, MODE_SYMMETRIC_ACTIVE, MODE_CLIENT, MODE_SERVER, MODE_BROADCAST, MODE_CONTROL}
use Rattle.ntp_packet.specs.declared.packet.TheConstants.{HEADER_LEN, KISS_CODE_LEN, MAX_SYNCHRONIZED_STRATUM, UNSYNCHRONIZED_STRATUM}
use Rattle.ntp_packet.specs.declared.packet.Header.{Header}
use Rattle.ntp_packet.specs.declared.packet.PacketFault.TheVariants.{Short, BadVersion, BadMode}
use Rattle.ntp_packet.specs.Packet.{spelled_header, leap_of, version_of, mode_of, fault_of}

abbrev request : Header
request = record {
  leap = 0;
  version = 4;
  mode = 3;
  stratum = 0;
  poll = pos 6;
  precision = negsuc 22;
  root_delay = record { 0 = 0 };
  root_disp = record { 0 = 0 };
  refid = 0 ∷ 0 ∷ 0 ∷ 0 ∷ [];
  reference = record { 0 = 0 };
  origin = record { 0 = 0 };
  receive = record { 0 = 0 };
  transmit = record { 0 = 0x83aa7e8000000000 };
}

abbrev request_octets : List ℕ
request_octets =
    0x23 ∷ 0x00 ∷ 0x06 ∷ 0xe9 ∷ 0x00 ∷ 0x00 ∷ 0x00 ∷ 0x00 ∷
    0x00 ∷ 0x00 ∷ 0x00 ∷ 0x00 ∷ 0x00 ∷ 0x00 ∷ 0x00 ∷ 0x00 ∷
    0x00 ∷ 0x00 ∷ 0x00 ∷ 0x00 ∷ 0x00 ∷ 0x00 ∷ 0x00 ∷ 0x00 ∷
    0x00 ∷ 0x00 ∷ 0x00 ∷ 0x00 ∷ 0x00 ∷ 0x00 ∷ 0x00 ∷ 0x00 ∷
    0x00 ∷ 0x00 ∷ 0x00 ∷ 0x00 ∷ 0x00 ∷ 0x00 ∷ 0x00 ∷ 0x00 ∷
    0x83 ∷ 0xaa ∷ 0x7e ∷ 0x80 ∷ 0x00 ∷ 0x00 ∷ 0x00 ∷ 0x00 ∷ []

-- leap 3 and a dispersion of 16 seconds: no source has been heard yet
abbrev reply : Header
reply = record {
  leap = 3;
  version = 4;
  mode = 4;
  stratum = 0;
  poll = pos 6;
  precision = negsuc 19;
  root_delay = record { 0 = 0 };
  root_disp = record { 0 = 0x100000 };
  refid = 73 ∷ 78 ∷ 73 ∷ 84 ∷ [];
  reference = record { 0 = 0 };
  origin = record { 0 = 0x83aa7e8000000000 };
  receive = record { 0 = 0x83aa7e8100000000 };
  transmit = record { 0 = 0x83aa7e8100000000 };
}

abbrev reply_octets : List ℕ
reply_octets =
    0xe4 ∷ 0x00 ∷ 0x06 ∷ 0xec ∷ 0x00 ∷ 0x00 ∷ 0x00 ∷ 0x00 ∷
    0x00 ∷ 0x10 ∷ 0x00 ∷ 0x00 ∷ 0x49 ∷ 0x4e ∷ 0x49 ∷ 0x54 ∷
    0x00 ∷ 0x00 ∷ 0x00 ∷ 0x00 ∷ 0x00 ∷ 0x00 ∷ 0x00 ∷ 0x00 ∷
    0x83 ∷ 0xaa ∷ 0x7e ∷ 0x80 ∷ 0x00 ∷ 0x00 ∷ 0x00 ∷ 0x00 ∷
    0x83 ∷ 0xaa ∷ 0x7e ∷ 0x81 ∷ 0x00 ∷ 0x00 ∷ 0x00 ∷ 0x00 ∷
    0x83 ∷ 0xaa ∷ 0x7e ∷ 0x81 ∷ 0x00 ∷ 0x00 ∷ 0x00 ∷ 0x00 ∷ []

request-spelled : spelled_header request ≡ request_octets
unfolding spelled_header
request-spelled = refl

reply-spelled : spelled_header reply ≡ reply_octets
unfolding spelled_header
reply-spelled = refl

request-version : version_of request_octets ≡ 4
request-version = refl

request-mode : mode_of request_octets ≡ 3
request-mode = refl

reply-leap : leap_of reply_octets ≡ 3
reply-leap = refl

reply-mode : mode_of reply_octets ≡ 4
reply-mode = refl

request-fault : fault_of request_octets ≡ None
request-fault = refl

-- what follows the header is not judged
longer-fault : fault_of (reply_octets ++ 1 ∷ []) ≡ None
longer-fault = refl

-- 47 octets are short, whatever their version
short-fault : fault_of (take 47 (0 ∷ request_octets)) ≡ Some Short
short-fault = refl

-- version 5 and mode 7: the version is judged first
version-fault : fault_of (0x2f ∷ drop 1 request_octets) ≡ Some BadVersion
version-fault = refl

-- version 4 and mode 6, a control message
mode-fault : fault_of (0x26 ∷ drop 1 request_octets) ≡ Some BadMode
mode-fault = refl

LEAP_UNSYNCHRONIZED-is : LEAP_UNSYNCHRONIZED ≡ 3
LEAP_UNSYNCHRONIZED-is = refl

MIN_VERSION-is : MIN_VERSION ≡ 1
MIN_VERSION-is = refl

CURRENT_VERSION-is : CURRENT_VERSION ≡ 4
CURRENT_VERSION-is = refl

MODE_SYMMETRIC_ACTIVE-is : MODE_SYMMETRIC_ACTIVE ≡ 1
MODE_SYMMETRIC_ACTIVE-is = refl

MODE_CLIENT-is : MODE_CLIENT ≡ 3
MODE_CLIENT-is = refl

MODE_SERVER-is : MODE_SERVER ≡ 4
MODE_SERVER-is = refl

MODE_BROADCAST-is : MODE_BROADCAST ≡ 5
MODE_BROADCAST-is = refl

MODE_CONTROL-is : MODE_CONTROL ≡ 6
MODE_CONTROL-is = refl

HEADER_LEN-is : HEADER_LEN ≡ 48
HEADER_LEN-is = refl

KISS_CODE_LEN-is : KISS_CODE_LEN ≡ 4
KISS_CODE_LEN-is = refl

MAX_SYNCHRONIZED_STRATUM-is : MAX_SYNCHRONIZED_STRATUM ≡ 15
MAX_SYNCHRONIZED_STRATUM-is = refl

UNSYNCHRONIZED_STRATUM-is : UNSYNCHRONIZED_STRATUM ≡ 16
UNSYNCHRONIZED_STRATUM-is = refl
