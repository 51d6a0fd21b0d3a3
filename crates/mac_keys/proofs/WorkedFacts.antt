-- The numbers of key files and tables, and what stands on either side of each.
use Rattle.std.proofs.Common.{◌≡◌, ℕ, List, true, false, None, codes, decimal, refl, lit≤, arith}
use Rattle.mac_keys.specs.declared.checking.Auth.TheVariants.{Absent, Good, Bad}
use Rattle.mac_keys.specs.declared.keys.TheConstants.{MAX_HEX_DIGITS, MAX_KEY_ID, MAX_PLAIN_SECRET, MAX_SECRET, MIN_HEX_DIGITS, MIN_KEY_ID}
use Rattle.mac_keys.specs.declared.tables.TheConstants.{MAX_KEYS}
use Rattle.mac_keys.specs.Checks.{is_good}
use Rattle.mac_keys.specs.KeyLines.{IsId, hex_secret_of, is_plain}

MAX_KEYS-is : MAX_KEYS ≡ 1024
MAX_KEYS-is = refl

MIN_KEY_ID-is : MIN_KEY_ID ≡ 1
MIN_KEY_ID-is = refl

MAX_KEY_ID-is : MAX_KEY_ID ≡ 65535
MAX_KEY_ID-is = refl

MAX_SECRET-is : MAX_SECRET ≡ 64
MAX_SECRET-is = refl

MAX_PLAIN_SECRET-is : MAX_PLAIN_SECRET ≡ 20
MAX_PLAIN_SECRET-is = refl

MIN_HEX_DIGITS-is : MIN_HEX_DIGITS ≡ 22
MIN_HEX_DIGITS-is = refl

MAX_HEX_DIGITS-is : MAX_HEX_DIGITS ≡ 128
MAX_HEX_DIGITS-is = refl

-- an id is 1 to 65535
lowest : IsId (decimal 1) 1
lowest = (refl, lit≤ tt, lit≤ tt)

highest : IsId (decimal 65535) 65535
highest = (refl, lit≤ tt, lit≤ tt)

no_zero : (word : List ℕ) → ¬ IsId word 0
no_zero word (spelled, least, most) = omega (arith, least)

no_higher : (word : List ℕ) → ¬ IsId word 65536
no_higher word (spelled, least, most) = omega (arith, most)

-- a plain secret has 20 octets at most, and hexadecimal digits are 22 to 128
plain_20 : is_plain (codes "12345678901234567890") ≡ true
plain_20 = refl

plain_21 : is_plain (codes "123456789012345678901") ≡ false
plain_21 = refl

hex_21 : hex_secret_of (codes "123456789012345678901") ≡ None
hex_21 = refl

-- a code is good that is that of a key, and no other
good : (id : ℕ) → is_good (Good id) ≡ true
good id = refl

absent : is_good Absent ≡ false
absent = refl

bad : is_good Bad ≡ false
bad = refl
