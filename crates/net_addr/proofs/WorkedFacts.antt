-- Our constants by their numbers, and an address by its number: by hand, from RFC 791 and RFC 4291.
use Rattle.std.proofs.Common.{◌≡◌, ℕ, List, [], ◌∷◌, refl}
use Rattle.net_addr.specs.declared.addr.Ip.TheVariants.{V4, V6}
use Rattle.net_addr.specs.Addresses.{bits_of, number_of}

v4_bits : (octets : List ℕ) → bits_of (V4 octets) ≡ 32
v4_bits octets = refl

v6_bits : (octets : List ℕ) → bits_of (V6 octets) ≡ 128
v6_bits octets = refl

-- 10 * 2^24 + 1: the first octet is the highest
number_v4 : number_of (V4 (10 ∷ 0 ∷ 0 ∷ 1 ∷ [])) ≡ 167772161
unfolding number_of
number_v4 = refl

-- 2^120 + 2
number_v6 : number_of (V6 (1 ∷ 0 ∷ 0 ∷ 0 ∷ 0 ∷ 0 ∷ 0 ∷ 0 ∷ 0 ∷ 0 ∷ 0 ∷ 0 ∷ 0 ∷ 0 ∷ 0 ∷ 2 ∷ [])) ≡ 1329227995784915872903807060280344578
unfolding number_of
number_v6 = refl
