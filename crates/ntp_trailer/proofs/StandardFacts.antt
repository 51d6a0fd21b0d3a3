-- Worked octets after a header: fields and MACs (RFC 5905, sections 7.3 and 7.5).
use Rattle.std.proofs.Common.{◌≡◌, ℕ, List, [], ◌∷◌, ◌++◌, replicate, Some, refl, inl, inr, lit<, lit≤, arith}
use Rattle.ntp_packet.specs.declared.packet.TheConstants.{HEADER_LEN}
use Rattle.ntp_trailer.specs.declared.parts.TheConstants.{MIN_FIELD_LEN, MAX_MAC_LEN, KEY_ID_LEN}
use Rattle.ntp_trailer.specs.Trailers.{length_said, IsField, IsFieldLength, IsTrailer, trailer_of}

-- a field of type 2 and 16 octets
abbrev field : List ℕ
field = 0 ∷ 2 ∷ 0 ∷ 16 ∷ replicate 12 7

-- a MAC with the key id 258 and a digest of 16 octets
abbrev mac : List ℕ
mac = 0 ∷ 0 ∷ 1 ∷ 2 ∷ replicate 16 9

field-said : length_said field ≡ 16
field-said = refl

field-is : IsField field
field-is = record { said = refl; allowed = (lit≤ tt, refl) }

-- nothing after the header
nothing-is : IsTrailer (replicate HEADER_LEN 0) [] []
nothing-is = record { division = record { joined = refl; are_fields = tt }; end = inl (refl, refl) }

-- two fields, and a MAC behind them
two_fields-is : IsTrailer (replicate HEADER_LEN 0 ++ (field ++ (field ++ mac))) (field ∷ field ∷ []) mac
two_fields-is = record {
  division = record { joined = refl; are_fields = (field-is, lit< tt, (field-is, lit< tt, tt)) };
  end = inr (inr (inl refl));
}

two_fields-places : trailer_of (field ∷ field ∷ []) mac ≡ record { fields_end = 80; mac = Some (record { id = 258; start = 80; length = 20 }) }
two_fields-places = refl

-- a MAC of 20 octets that begin as a field of 16 would: no field is looked for
short_mac-is : IsTrailer (replicate HEADER_LEN 0 ++ (field ++ replicate 4 0)) [] (field ++ replicate 4 0)
short_mac-is = record { division = record { joined = refl; are_fields = tt }; end = inr (inr (inl refl)) }

MIN_FIELD_LEN-is : MIN_FIELD_LEN ≡ 16
MIN_FIELD_LEN-is = refl

MAX_MAC_LEN-is : MAX_MAC_LEN ≡ 24
MAX_MAC_LEN-is = refl

KEY_ID_LEN-is : KEY_ID_LEN ≡ 4
KEY_ID_LEN-is = refl

-- three words are no field, nor are 18 octets
three_words-no_field : ¬ (IsFieldLength 12)
three_words-no_field allowed = absurd (omega (arith, allowed.0))

ragged-no_field : ¬ (IsFieldLength 18)
ragged-no_field allowed = absurd (omega (arith, allowed.1))
