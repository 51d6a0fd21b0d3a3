-- A nonce has 24 lower-case hexadecimal digits, since what it spells is twelve octets.
use Rattle.std.proofs.Common.{◌≡◌, ℕ, zero, suc, ◌/◌, ◌%◌, ◌<◌, List, [], ◌∷◌, ◌++◌, length, take, arith, length-append, Contains}
use Rattle.std.proofs.lemmas.List.{length-take-le}
use Rattle.std.proofs.lemmas.List.Elements.{Contains-get_or}
use Rattle.std.specs.Int.{w32, byte_at, bytes_high_first, bytes_low_first, to_le_bytes}
use Rattle.std.specs.List.{AllByRecursion}
use Rattle.std.specs.Prelude.{slice_index}
use Rattle.byteorder.specs.Endian.{big_bytes}
use Rattle.byteorder.specs.Numbers.{length-bytes_high_first}
use Rattle.edge_traits.specs.declared.salt.Salt.{Salt}
use Rattle.hex.proofs.HexLemmas.{length-encode_with}
use Rattle.hex.specs.Hex.{encode_lower, encode_with, lower_digits}
use Rattle.md5.proofs.StandardFacts.{length-md5}
use Rattle.md5.specs.Md5.{digest_bytes, md5}
use Rattle.mode6_nonce.specs.Nonces.{digested_for, nonce_octets, nonce_of}
use Rattle.net_addr.specs.declared.addr.Ip.{Ip}

-- each is an octet
abbrev AreOctets : List ℕ → Type 0
AreOctets octets = AllByRecursion (λ octet. octet < 256) octets

-- octets and octets
octets-append : (octets others : List ℕ) → AreOctets octets → AreOctets others → AreOctets (octets ++ others)
octets-append [] others are other = other
octets-append (x ∷ octets) others are other = (are.0, octets-append octets others are.1 other)

-- the first of octets
octets-take : (n : ℕ) (octets : List ℕ) → AreOctets octets → AreOctets (take n octets)
octets-take zero octets are = tt
octets-take (suc n) [] are = tt
octets-take (suc n) (x ∷ octets) are = (are.0, octets-take n octets are.1)

-- an octet of a number
pub byte_at-octet : (i n : ℕ) → byte_at i n < 256
byte_at-octet zero n = omega arith
byte_at-octet (suc i) n = omega arith

-- the octets of a number, the highest first
octets-high_first : (k n : ℕ) → AreOctets (bytes_high_first k n)
octets-high_first zero n = tt
octets-high_first (suc k) n = (byte_at-octet k n, octets-high_first k n)

-- and the lowest first
octets-low_first : (i k n : ℕ) → AreOctets (bytes_low_first i k n)
octets-low_first i zero n = tt
octets-low_first i (suc k) n = (byte_at-octet i n, octets-low_first (suc i) k n)

-- the octets of a digest
octets-digest : (words : List ℕ) (n : ℕ) → AreOctets (digest_bytes words n)
unfolding digest_bytes
octets-digest words zero = tt
octets-digest words (suc n) =
    octets-append (digest_bytes words n) (to_le_bytes w32 (slice_index words n)) (octets-digest words n) (octets-low_first 0 4 (slice_index words n))

-- and so of a whole one
octets-md5 : (message : List ℕ) → AreOctets (md5 message)
unfolding md5
octets-md5 message = octets-digest _ 4

-- what a nonce spells is octets
pub octets-nonce : (salt : Salt) (ip : Ip) (time : ℕ) → AllByRecursion (λ octet. octet < 256) (nonce_octets salt ip time)
octets-nonce salt ip time =
    octets-append (big_bytes 8 time) (take 4 (md5 (digested_for salt ip time)))
    (octets-high_first 8 time) (octets-take 4 (md5 (digested_for salt ip time)) (octets-md5 (digested_for salt ip time)))

-- octets are spelled in lower-case digits
digits-encode : (octets : List ℕ) → AreOctets octets → AllByRecursion (λ digit. Contains lower_digits digit) (encode_lower octets)
unfolding encode_with
digits-encode [] are = tt
digits-encode (x ∷ octets) are = (
  Contains-get_or lower_digits (x / 16) 0 (omega (arith, are.0)),
  (Contains-get_or lower_digits (x % 16) 0 (omega arith), digits-encode octets are.1),
)

-- a nonce has such digits
pub digits-nonce : (salt : Salt) (ip : Ip) (time : ℕ) → AllByRecursion (λ digit. Contains lower_digits digit) (nonce_of salt ip time)
unfolding nonce_of
digits-nonce salt ip time = digits-encode (nonce_octets salt ip time) (octets-nonce salt ip time)

-- and 24 of them
pub length-nonce : (salt : Salt) (ip : Ip) (time : ℕ) → length (nonce_of salt ip time) ≡ 24
unfolding nonce_of
length-nonce salt ip time =
    let digest = md5 (digested_for salt ip time) in
    let whole = length-md5 (digested_for salt ip time) in
    let mark : length (take 4 digest) ≡ 4 = length-take-le 4 digest (omega (arith, whole)) in
    omega (arith, mark, length-encode_with lower_digits (nonce_octets salt ip time), length-append (big_bytes 8 time) (take 4 digest), length-bytes_high_first 8 time)
