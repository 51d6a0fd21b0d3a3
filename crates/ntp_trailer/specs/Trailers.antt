-- What follows the NTP header: extension fields, then the MAC (RFC 5905, sections 7.3 and 7.5).
use Rattle.std.specs.Prelude.{◌≡◌, ℕ, ◌+◌, ◌%◌, ◌<◌, ◌≤◌, ◌==◌, ◌⊎◌, if◌then◌else◌, List, [], ◌∷◌, ◌++◌, length, drop, Option, Some, None}
use Rattle.std.specs.List.{concat}
use Rattle.byteorder.specs.Endian.{big_number}
use Rattle.ntp_packet.specs.declared.packet.TheConstants.{HEADER_LEN}
use Rattle.ntp_trailer.specs.declared.parts.TheConstants.{MIN_FIELD_LEN, MAX_MAC_LEN, KEY_ID_LEN}
use Rattle.ntp_trailer.specs.declared.parts.Mac.{Mac}
use Rattle.ntp_trailer.specs.declared.parts.Trailer.{Trailer}
use Rattle.ntp_trailer.specs.declared.parts.TrailerFault.{TrailerFault}
use Rattle.ntp_trailer.specs.declared.parts.TrailerFault.TheVariants.{Ragged, FieldShort, FieldLong, BadRemainder}

-- the length that a field says in its third and fourth octet
abbrev pub length_said : List ℕ → ℕ
length_said octets = big_number 2 (drop 2 octets)

-- a length that a field may have: 16 at least, and whole words
abbrev pub IsFieldLength : ℕ → Type 0
IsFieldLength n = (MIN_FIELD_LEN ≤ n) × (n % 4 ≡ 0)

-- these octets are one extension field: the length that it says is how many they are
pub record IsField (octets : List ℕ) : Type 0 where
  pub said : length_said octets ≡ length octets
  pub allowed : IsFieldLength (length octets)

-- each is a field, and begins where more octets remain than a MAC has; `remainder` follows the last
abbrev pub AreFields : List (List ℕ) → List ℕ → Type 0
AreFields [] remainder = Unit {0}
AreFields (field ∷ fields) remainder =
    IsField field
    × (MAX_MAC_LEN < length (field ++ (concat fields ++ remainder)))
    × AreFields fields remainder

-- the octets after the header are these fields end to end, and then the remainder
pub record IsDivision (octets : List ℕ) (fields : List (List ℕ)) (remainder : List ℕ) : Type 0 where
  pub joined : drop HEADER_LEN octets ≡ concat fields ++ remainder
  pub are_fields : AreFields fields remainder

-- the octets of a key id alone, or of a key id with a digest of 16 or 20 octets
abbrev pub HasMacLength : List ℕ → Type 0
HasMacLength mac = (length mac ≡ 4) ⊎ ((length mac ≡ 20) ⊎ (length mac ≡ 24))

-- what may stand behind the fields: a MAC, or nothing where there is no field
abbrev pub IsEnd : List (List ℕ) → List ℕ → Type 0
IsEnd fields mac = ((mac ≡ []) × (fields ≡ [])) ⊎ HasMacLength mac

-- the octets after the header are these fields end to end followed by the MAC, which may be missing
pub record IsTrailer (octets : List ℕ) (fields : List (List ℕ)) (mac : List ℕ) : Type 0 where
  pub division : IsDivision octets fields mac
  pub end : IsEnd fields mac

-- the place behind the fields
abbrev pub place_after : List (List ℕ) → ℕ
place_after fields = HEADER_LEN + length (concat fields)

-- the MAC of these octets, which stand from a place on: the key id is the first four
abbrev pub mac_at : ℕ → List ℕ → Mac
mac_at place mac = record { id = big_number KEY_ID_LEN mac; start = place; length = length mac }

-- the MAC that stands from a place on; none of no octets
abbrev pub mac_from : ℕ → List ℕ → Option Mac
mac_from place mac = if length mac == 0 then None else Some (mac_at place mac)

-- the places of these fields and this MAC
abbrev pub trailer_of : List (List ℕ) → List ℕ → Trailer
trailer_of fields mac = record { fields_end = place_after fields; mac = mac_from (place_after fields) mac }

-- the octets are divided into fields and MAC at these places
pub record HasTrailer (octets : List ℕ) (trailer : Trailer) : Type 0 where
  pub fields : List (List ℕ)
  pub mac : List ℕ
  pub is : IsTrailer octets fields mac
  pub places : trailer ≡ trailer_of fields mac

-- the octets after the header are whole words of four
abbrev pub AreWords : List ℕ → Type 0
AreWords octets = length (drop HEADER_LEN octets) % 4 ≡ 0

-- our own rule: what is wrong with a remainder behind fields, so that no field and no MAC is there
abbrev pub IsWrong : TrailerFault → List (List ℕ) → List ℕ → Type 0
IsWrong Ragged fields remainder = ⊥
IsWrong FieldShort fields remainder =
    (MAX_MAC_LEN < length remainder) × ¬ (IsFieldLength (length_said remainder))
IsWrong FieldLong fields remainder =
    (MAX_MAC_LEN < length remainder) × IsFieldLength (length_said remainder)
    × (length remainder < length_said remainder)
IsWrong BadRemainder fields remainder = (length remainder ≤ MAX_MAC_LEN) × ¬ (IsEnd fields remainder)

-- the octets are fields up to a remainder with this fault
pub record StopsAt (fault : TrailerFault) (octets : List ℕ) : Type 0 where
  pub fields : List (List ℕ)
  pub remainder : List ℕ
  pub division : IsDivision octets fields remainder
  pub wrong : IsWrong fault fields remainder

-- our own rule: this is the first fault of the octets, whole words being judged before all fields
abbrev pub IsRefused : List ℕ → TrailerFault → Type 0
IsRefused octets Ragged = ¬ (AreWords octets)
IsRefused octets FieldShort = AreWords octets × StopsAt FieldShort octets
IsRefused octets FieldLong = AreWords octets × StopsAt FieldLong octets
IsRefused octets BadRemainder = AreWords octets × StopsAt BadRemainder octets
