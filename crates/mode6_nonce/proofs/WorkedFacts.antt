-- Worked nonces, and what stands on either side of the lifetime. The digests were made by Python's hashlib.
use Rattle.std.proofs.Common.{◌≡◌, ℕ, [], ◌∷◌, pos, codes, refl, arith}
use Rattle.std.proofs.lemmas.Int.{ints}
use Rattle.edge_traits.specs.declared.salt.Salt.{Salt}
use Rattle.hex.specs.Hex.{encode_with}
use Rattle.md5.specs.Md5.{block_words, rounds, compress, hash_after, digest_bytes, md5}
use Rattle.mode6_nonce.specs.Nonces.{IsAlive, nonce_of}
use Rattle.mode6_nonce.specs.declared.checking.TheConstants.{LIFETIME}
use Rattle.mode6_nonce.specs.declared.making.TheConstants.{NONCE_LEN}
use Rattle.net_addr.specs.declared.addr.Ip.TheVariants.{V4, V6}

NONCE_LEN-is : NONCE_LEN ≡ 24
NONCE_LEN-is = refl

LIFETIME-is : LIFETIME ≡ pos 68719476736
LIFETIME-is = refl

-- one second after the beginning of 1970
abbrev made_at : ℕ
made_at = 0x83aa_7e81_0000_0000

abbrev plain_salt : Salt
plain_salt = record { 0 = 0 ∷ 0 ∷ 0 ∷ 0 ∷ 0 ∷ 0 ∷ 0 ∷ 0 ∷ 0 ∷ 0 ∷ 0 ∷ 0 ∷ 0 ∷ 0 ∷ 0 ∷ 0 ∷ [] }

abbrev counted_salt : Salt
counted_salt = record { 0 = 0 ∷ 1 ∷ 2 ∷ 3 ∷ 4 ∷ 5 ∷ 6 ∷ 7 ∷ 8 ∷ 9 ∷ 10 ∷ 11 ∷ 12 ∷ 13 ∷ 14 ∷ 15 ∷ [] }

-- the nonce of 10.0.0.1
nonce_v4 : nonce_of plain_salt (V4 (10 ∷ 0 ∷ 0 ∷ 1 ∷ [])) made_at ≡ codes "83aa7e8100000000694741e8"
unfolding nonce_of encode_with md5 digest_bytes hash_after compress rounds block_words
nonce_v4 = refl

-- the nonce of 2001:db8::1
nonce_v6 : nonce_of counted_salt (V6 (0x20 ∷ 0x01 ∷ 0x0d ∷ 0xb8 ∷ 0 ∷ 0 ∷ 0 ∷ 0 ∷ 0 ∷ 0 ∷ 0 ∷ 0 ∷ 0 ∷ 0 ∷ 0 ∷ 1 ∷ [])) made_at ≡ codes "83aa7e8100000000aabe3af3"
unfolding nonce_of encode_with md5 digest_bytes hash_after compress rounds block_words
nonce_v6 = refl

-- a nonce is taken at once, and 16 seconds later
at_once : IsAlive made_at made_at
at_once = (omega (arith, ints), omega (arith, ints))

after_16_seconds : IsAlive 0x83aa_7e91_0000_0000 made_at
after_16_seconds = (omega (arith, ints), omega (arith, ints))

-- it is not one unit later, and not one unit before it is made
too_late : ¬ IsAlive 0x83aa_7e91_0000_0001 made_at
too_late (begun, lasting) = omega (arith, ints, lasting)

too_early : ¬ IsAlive 0x83aa_7e80_ffff_ffff made_at
too_early (begun, lasting) = omega (arith, ints, begun)

-- half a second before the end of an era a nonce is made that is taken half a second after it
over_the_end : IsAlive 0x8000_0000 0xffff_ffff_8000_0000
over_the_end = (omega (arith, ints), omega (arith, ints))
