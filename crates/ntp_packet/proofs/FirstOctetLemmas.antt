-- What spells a first octet is read from it, and the other way round.
use Rattle.std.proofs.Common.{◌≡◌, ℕ, ◌^◌, ◌<◌, List, ◌∷◌, slice_index, arith}
use Rattle.ntp_packet.specs.FirstOctet.{first_octet, leap_of, version_of, mode_of}

-- the leap indicator of a spelled octet
pub leap_of-first_octet : (leap version mode : ℕ) (rest : List ℕ) → version < 2 ^ 3 → mode < 2 ^ 3 → leap_of (first_octet leap version mode ∷ rest) ≡ leap
leap_of-first_octet leap version mode rest v m = omega arith

-- the version of a spelled octet
pub version_of-first_octet : (leap version mode : ℕ) (rest : List ℕ) → version < 2 ^ 3 → mode < 2 ^ 3 → version_of (first_octet leap version mode ∷ rest) ≡ version
version_of-first_octet leap version mode rest v m = omega arith

-- the mode of a spelled octet
pub mode_of-first_octet : (leap version mode : ℕ) (rest : List ℕ) → mode < 2 ^ 3 → mode_of (first_octet leap version mode ∷ rest) ≡ mode
mode_of-first_octet leap version mode rest m = omega arith

-- what is read from an octet spells it
pub first_octet-read : (octets : List ℕ) → first_octet (leap_of octets) (version_of octets) (mode_of octets) ≡ slice_index octets 0
first_octet-read octets = omega arith
