-- What fits where hexadecimal digits are read.
use Rattle.std.proofs.Common.{◌≡◌, ℕ, ◌+◌, ◌*◌, ◌^◌, ◌<◌, ◌≤◌, Bool, true, false, ◌&&◌, List, [], ◌∷◌, refl, subst, arith}
use Rattle.std.proofs.Math.Nat.{pow-le-pow_right}
use Rattle.std.proofs.lemmas.Bool.Decides.{nat_tests}
use Rattle.std.proofs.lemmas.Int.Digits.{digits_value-lt}
use Rattle.std.specs.Char.{digit_value}
use Rattle.std.specs.List.{list_all}
use Rattle.std.specs.Str.Parse.{AllDigits}
use Rattle.hex.specs.Hex.{is_hex_digit}
use Rattle.mru_items.specs.Values.{SpellsMask}

-- there is room for one more digit
pub room : (i number : ℕ) → i < 4 → number < 16 ^ i → number * 16 + 15 < 2 ^ 32
room i number few small =
    let most : 16 ^ i ≤ 16 ^ 3 = pow-le-pow_right {n = 16} (omega arith) {i = i} {j = 3} (omega arith) in
    omega (arith, most)

-- four digits tell a number of 16 bits
pub four-digits : (i number : ℕ) → i ≤ 4 → number < 16 ^ i → number < 2 ^ 16
four-digits i number few small =
    let most : 16 ^ i ≤ 16 ^ 4 = pow-le-pow_right {n = 16} (omega arith) {i = i} {j = 4} (omega arith) in
    omega (arith, most)

-- a hexadecimal digit is below 16
digit-small : (c : ℕ) → is_hex_digit c ≡ true → digit_value c < 16
digit-small c is = grind (arith, nat_tests)

-- where two tests pass each of them does
both : (one other : Bool) → (one && other) ≡ true → (one ≡ true) × (other ≡ true)
both true other is = (refl, is)
both false other is = absurd (cc is)

-- and so is each of many
all-digits : (digits : List ℕ) → list_all is_hex_digit digits ≡ true → AllDigits 16 digits
all-digits [] are = tt
all-digits (c ∷ digits) are =
    let are_both = both (is_hex_digit c) (list_all is_hex_digit digits) are in
    (digit-small c are_both.0, all-digits digits are_both.1)

-- a mask is a number of 16 bits
pub SpellsMask-fits : (text : List ℕ) (mask : ℕ) → SpellsMask text mask → mask < 2 ^ 16
SpellsMask-fits text mask spells =
    subst (λ (n : ℕ). n < 2 ^ 16) spells.value (four-digits _ _ spells.few (digits_value-lt 16 spells.digits (all-digits spells.digits spells.each)))
