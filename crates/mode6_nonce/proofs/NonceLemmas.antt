-- The digits of a nonce, and the time that they name.
use Rattle.std.proofs.Common.{◌≡◌, ℕ, zero, suc, ◌^◌, ◌<◌, ◌≤◌, List, [], length, take, Result, Ok, refl, sym, ap, ◌∙◌, arith}
use Rattle.std.proofs.lemmas.List.{length-take}
use Rattle.std.proofs.lemmas.Nat.{from_be_bytes-to_be_bytes_8}
use Rattle.std.specs.Int.{w64, bytes_high_first, from_be_bytes}
use Rattle.std.specs.Result.{result_unwrap_or}
use Rattle.byteorder.specs.Endian.{big_bytes}
use Rattle.byteorder.specs.Numbers.{length-bytes_high_first}
use Rattle.edge_traits.specs.declared.salt.Salt.{Salt}
use Rattle.hex.proofs.HexLemmas.{length-encode_with, decode_sized-encode_lower}
use Rattle.hex.specs.Hex.{IsBytes, decode_sized, encode_lower, encode_with, lower_digits}
use Rattle.hex.specs.declared.error.FromHexError.{FromHexError}
use Rattle.mode6_nonce.proofs.DigitLemmas.{byte_at-octet}
use Rattle.mode6_nonce.specs.Nonces.{IsGood, nonce_of}
use Rattle.net_addr.specs.declared.addr.Ip.{Ip}

-- the octets of a number are octets
IsBytes-bytes : (k n : ℕ) → IsBytes (bytes_high_first k n)
IsBytes-bytes zero n i = omega arith
IsBytes-bytes (suc k) n zero = byte_at-octet k n
IsBytes-bytes (suc k) n (suc i) = IsBytes-bytes k n i

-- the digits of a time are sixteen
length-digits : (time : ℕ) → length (encode_lower (big_bytes 8 time)) ≡ 16
length-digits time = omega (arith, length-encode_with lower_digits (big_bytes 8 time), length-bytes_high_first 8 time)

-- octets that begin with them are as many at least
pub named-long : (nonce : List ℕ) (time : ℕ) → take 16 nonce ≡ encode_lower (big_bytes 8 time) → 16 ≤ length nonce
named-long nonce time named = omega (arith, ap length named, length-digits time, length-take 16 nonce)

-- they are read as its octets
pub digits-read : (text : List ℕ) (time : ℕ) → text ≡ encode_lower (big_bytes 8 time) → decode_sized text 8 ≡ Ok (big_bytes 8 time)
digits-read text time named =
    ap (λ digits. decode_sized digits 8) named
    ∙ decode_sized-encode_lower (big_bytes 8 time) 8 (length-bytes_high_first 8 time) (IsBytes-bytes 8 time)

-- and these as the time
pub time-read : (text octets : List ℕ) (time : ℕ) → time < 2 ^ 64 → text ≡ encode_lower (big_bytes 8 time)
    → decode_sized text 8 ≡ Ok octets → from_be_bytes w64 octets ≡ time
time-read text octets time fits named read =
    let same : octets ≡ big_bytes 8 time = ap (λ (r : Result (List ℕ) FromHexError). result_unwrap_or r []) (sym read ∙ digits-read text time named) in
    ap (from_be_bytes w64) same ∙ from_be_bytes-to_be_bytes_8 time fits

-- a nonce begins with the digits of its time
pub take-nonce_of : (salt : Salt) (ip : Ip) (time : ℕ) → take 16 (nonce_of salt ip time) ≡ encode_lower (big_bytes 8 time)
unfolding nonce_of encode_with
take-nonce_of salt ip time = refl

-- octets that are a good nonce begin with the digits of its time
pub take-good : (salt : Salt) (ip : Ip) (nonce : List ℕ) (now : ℕ) (good : IsGood salt ip nonce now) → take 16 nonce ≡ encode_lower (big_bytes 8 good.time)
take-good salt ip nonce now good = ap (take 16) good.made ∙ take-nonce_of salt ip good.time

-- nonces that are equal have equal times
pub nonce_of-time : (salt other_salt : Salt) (ip other_ip : Ip) (time other : ℕ) → time < 2 ^ 64 → other < 2 ^ 64
    → nonce_of salt ip time ≡ nonce_of other_salt other_ip other → time ≡ other
nonce_of-time salt other_salt ip other_ip time other fits other_fits same =
    let digits : encode_lower (big_bytes 8 time) ≡ encode_lower (big_bytes 8 other) =
    sym (take-nonce_of salt ip time) ∙ ap (take 16) same ∙ take-nonce_of other_salt other_ip other in
    sym (from_be_bytes-to_be_bytes_8 time fits)
    ∙ time-read (encode_lower (big_bytes 8 time)) (big_bytes 8 time) other other_fits digits (digits-read (encode_lower (big_bytes 8 time)) time refl)
