-- Which MACs are authentic, and how one is spelled (RFC 5905, section 7.3).
use Rattle.std.specs.Prelude.{◌≡◌, ℕ, ◌+◌, ◌<◌, List, ◌++◌, take, drop, None, IsSomeAnd}
use Rattle.byteorder.specs.Endian.{big_bytes}
use Rattle.mac_keys.specs.declared.keys.Key.{Key}
use Rattle.mac_keys.specs.declared.checking.Auth.{Auth}
use Rattle.mac_keys.specs.declared.checking.Auth.TheVariants.{Absent, Good, Bad}
use Rattle.mac_keys.specs.Checks.{IsAuthentic}
use Rattle.mac_keys.specs.Digests.{digest_of}
use Rattle.ntp_trailer.specs.declared.parts.TheConstants.{KEY_ID_LEN}
use Rattle.ntp_trailer.specs.declared.parts.Mac.{Mac}
use Rattle.ntp_trailer.specs.declared.parts.Trailer.{Trailer}

-- the MAC names this key and has a digest, which is the key's of all octets up to the MAC
abbrev pub IsAuthenticMac : List Key → List ℕ → Mac → ℕ → Type 0
IsAuthenticMac keys octets mac id =
    (mac.id ≡ id) × (KEY_ID_LEN < mac.length)
    × IsAuthentic keys id (take mac.start octets) (drop (mac.start + KEY_ID_LEN) octets)

-- there is a MAC, and it is authentic under the key with this id
abbrev pub IsAuthenticTrailer : List Key → List ℕ → Trailer → ℕ → Type 0
IsAuthenticTrailer keys octets trailer id = IsSomeAnd trailer.mac (λ mac. IsAuthenticMac keys octets mac id)

-- what the MAC of these octets shows, whose trailer this is
abbrev pub IsAuth : List Key → List ℕ → Trailer → Auth → Type 0
IsAuth keys octets trailer Absent = trailer.mac ≡ None
IsAuth keys octets trailer (Good id) = IsAuthenticTrailer keys octets trailer id
IsAuth keys octets trailer Bad =
    ¬ (trailer.mac ≡ None) × ((id : ℕ) → ¬ (IsAuthenticTrailer keys octets trailer id))

-- the octets of a MAC: the key's id, and its digest of all octets before
abbrev pub spelled_mac : Key → List ℕ → List ℕ
spelled_mac key octets = big_bytes KEY_ID_LEN key.id ++ digest_of key octets
