use Rattle.std.proofs.Common.{arith, ◌≡◌, ℕ, ◌∷◌, [], ◌<◌, to_z, of_z, ℤ, w8, slice_index}
use Rattle.std.proofs.lemmas.Int.{of_z-to_z}
use Rattle.ntp_packet.specs.Fields.{header_at}
use Rattle.ntp_packet.proofs.reading.header_in.Goals as goal

-- the signed value of an octet, cast to its bits and back
signed-kept : (z : ℤ) (octet : ℕ) → octet < 256 → z ≡ to_z w8 octet → to_z w8 (of_z w8 z) ≡ to_z w8 octet
signed-kept z octet fits e = rw (e, of_z-to_z w8 octet fits)

pub returns : goal.returns
unfolding header_at
returns c =
    let bytes = c.args.bytes.now in
    let poll = signed-kept c.cast_signed.result (slice_index bytes 2) (omega (arith, c.type_inv.bytes 2)) c.cast_signed.ensures in
    let precision = signed-kept c.cast_signed-2.result (slice_index bytes 3) (omega (arith, c.type_inv.bytes 3)) c.cast_signed-2.ensures in
    λ i. record {
      leap = c.leap_in.ensures.value i;
      version = c.version_in.ensures.value i;
      mode = c.mode_in.ensures.value i;
      stratum = slice_index bytes 1;
      poll = poll i;
      precision = precision i;
      root_delay = record { 0 = c.short_in.ensures i };
      root_disp = record { 0 = c.short_in-2.ensures i };
      refid = slice_index bytes 12 ∷ slice_index bytes 13 ∷ slice_index bytes 14 ∷ slice_index bytes 15 ∷ [];
      reference = record { 0 = c.timestamp_in.ensures i };
      origin = record { 0 = c.timestamp_in-2.ensures i };
      receive = record { 0 = c.timestamp_in-3.ensures i };
      transmit = record { 0 = c.timestamp_in-4.ensures i };
    }
