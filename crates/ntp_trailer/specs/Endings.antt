-- Where the extension fields end, and what the remainder behind them is (RFC 5905, section 7.5).
use Rattle.std.specs.Prelude.{◌≡◌, ℕ, ◌%◌, ◌<◌, ◌≤◌, ◌==◌, ◌&&◌, ◌||◌, not, nat_lt, if◌then◌else◌, List, length, Result, Ok, Err}
use Rattle.ntp_packet.specs.declared.packet.TheConstants.{HEADER_LEN}
use Rattle.ntp_trailer.specs.declared.parts.TheConstants.{MIN_FIELD_LEN, MAX_MAC_LEN}
use Rattle.ntp_trailer.specs.declared.parts.Trailer.{Trailer}
use Rattle.ntp_trailer.specs.declared.parts.TrailerFault.{TrailerFault}
use Rattle.ntp_trailer.specs.declared.parts.TrailerFault.TheVariants.{FieldShort, FieldLong, BadRemainder}
use Rattle.ntp_trailer.specs.Trailers.{length_said, IsFieldLength, IsDivision, place_after, mac_from}

-- the octets begin with a field where more remain than a MAC has
pub record BeginsField (octets : List ℕ) : Type 0 where
  pub more : MAX_MAC_LEN < length octets
  pub allowed : IsFieldLength (length_said octets)
  pub within : length_said octets ≤ length octets

-- up to this place the octets after the header are fields
pub record LeadsTo (octets : List ℕ) (place : ℕ) (remainder : List ℕ) : Type 0 where
  pub fields : List (List ℕ)
  pub division : IsDivision octets fields remainder
  pub place_is : place ≡ place_after fields

-- what is wrong with a field that says this length, and is none
abbrev pub field_fault_of : ℕ → TrailerFault
field_fault_of said =
    if nat_lt said MIN_FIELD_LEN || not (said % 4 == 0) then FieldShort else FieldLong

-- what the remainder from a place on is, where no field begins it
unfoldable pub ending_of : ℕ → List ℕ → Result Trailer TrailerFault
ending_of place remainder =
    if nat_lt MAX_MAC_LEN (length remainder) then
    Err (field_fault_of (length_said remainder))
    else (if length remainder == 0 && place == HEADER_LEN
    || (length remainder == 4 || (length remainder == 20 || length remainder == 24)) then
    Ok (record { fields_end = place; mac = mac_from place remainder })
    else Err BadRemainder)
