-- The header that 48 octets spell, field by field at its place (RFC 5905, section 7.3, figure 8).
use Rattle.std.specs.Prelude.{ℕ, List, [], ◌∷◌, drop, slice_index}
use Rattle.std.specs.Int.{cast_signed, w8}
use Rattle.byteorder.specs.Endian.{big_number}
use Rattle.ntp_packet.specs.declared.packet.Header.{Header}
use Rattle.ntp_packet.specs.Packet.{leap_of, version_of, mode_of}

-- the header in the first 48 octets
unfoldable pub header_at : List ℕ → Header
header_at octets = record {
  leap = leap_of octets;
  version = version_of octets;
  mode = mode_of octets;
  stratum = slice_index octets 1;
  poll = cast_signed w8 (slice_index octets 2);
  precision = cast_signed w8 (slice_index octets 3);
  root_delay = record { 0 = big_number 4 (drop 4 octets) };
  root_disp = record { 0 = big_number 4 (drop 8 octets) };
  refid = slice_index octets 12 ∷ slice_index octets 13 ∷ slice_index octets 14 ∷ slice_index octets 15 ∷ [];
  reference = record { 0 = big_number 8 (drop 16 octets) };
  origin = record { 0 = big_number 8 (drop 24 octets) };
  receive = record { 0 = big_number 8 (drop 32 octets) };
  transmit = record { 0 = big_number 8 (drop 40 octets) };
}
