-- The first octet of a packet and of a control message: leap indicator, version and mode (RFC 5905, section 7.3,
-- figure 8; RFC 9327, section 2, figure 1).
use Rattle.std.specs.Prelude.{ℕ, ◌+◌, ◌*◌, ◌/◌, ◌%◌, ◌^◌, ◌≤◌, List, slice_index}
use Rattle.ntp_packet.specs.declared.leap_version_mode.TheConstants.{MIN_VERSION, CURRENT_VERSION, MODE_SYMMETRIC_ACTIVE, MODE_BROADCAST}

-- the octet of a leap indicator in 2 bits, a version in 3 and a mode in 3
abbrev pub first_octet : ℕ → ℕ → ℕ → ℕ
first_octet leap version mode = leap * 2 ^ 6 + version * 2 ^ 3 + mode

-- the leap indicator, in bits 6 and 7 of the first octet
abbrev pub leap_of : List ℕ → ℕ
leap_of octets = slice_index octets 0 / 2 ^ 6

-- the version, in bits 3 to 5 of the first octet
abbrev pub version_of : List ℕ → ℕ
version_of octets = slice_index octets 0 / 2 ^ 3 % 2 ^ 3

-- the mode, in bits 0 to 2 of the first octet
abbrev pub mode_of : List ℕ → ℕ
mode_of octets = slice_index octets 0 % 2 ^ 3

-- our own rule: versions 1 to 4 are read
abbrev pub IsPacketVersion : ℕ → Type 0
IsPacketVersion version = (MIN_VERSION ≤ version) × (version ≤ CURRENT_VERSION)

-- our own rule: modes 1 to 5 are packets, from symmetric active to broadcast
abbrev pub IsPacketMode : ℕ → Type 0
IsPacketMode mode = (MODE_SYMMETRIC_ACTIVE ≤ mode) × (mode ≤ MODE_BROADCAST)
