-- The difference and the shifted timestamp are each one number.
use Rattle.std.proofs.Common.{◌≡◌, ℕ, ◌+◌, ◌-◌, ◌*◌, ◌/◌, ◌%◌, ◌^◌, ◌<◌, suc, ℤ, pos, negsuc, ◌+ℤ◌, FitsSigned, inl, inr, ap, ◌∙◌, arith}
use Rattle.std.specs.Int.{w64, cast_signed, cast_unsigned}
use Rattle.std.proofs.lemmas.Bool.{cases_lt}
use Rattle.std.proofs.lemmas.Int.{ints}
use Rattle.std.proofs.Math.Facts.{to_z-neg}
use Rattle.fixed_time.specs.Time.{IsDiff, IsShifted, diff_of, shifted}

-- the signed reading of 64 bits that stand for -(k + 1)
reading_below : (bits k : ℕ) → bits ≡ 2 ^ 64 - suc k → k < 2 ^ 63 → cast_signed w64 bits ≡ negsuc k
reading_below bits k is small = ap (cast_signed w64) is ∙ to_z-neg w64 k small

-- the signed reading of 64 bits is the number itself, or 2^64 less where it is 2^63 or more
signed_reading : (bits : ℕ) → bits < 2 ^ 64 → pos bits ≡ pos (bits / 2 ^ 63 * 2 ^ 64) +ℤ cast_signed w64 bits
signed_reading bits fits =
    elim (cases_lt bits (2 ^ 63)) [
      | inl low ↦ omega (arith, ints)
      | inr high ↦
          let below = reading_below bits (2 ^ 64 - suc bits) (omega arith) (omega arith) in
          rw below (omega (arith, ints))
    ]

-- the signed reading of 64 bits is the difference
pub IsDiff-diff_of : (a b : ℕ) → a < 2 ^ 64 → b < 2 ^ 64 → IsDiff a b (diff_of a b)
IsDiff-diff_of a b a_fits b_fits =
    let bits = a + (2 ^ 64 - b) in
    let reading = signed_reading (bits % 2 ^ 64) (omega arith) in
    record {
      in_range = omega (arith, ints);
      turns = 1;
      turns_back = bits / 2 ^ 64 + bits % 2 ^ 64 / 2 ^ 63;
      congruent = omega (arith, ints);
    }

-- the sum of 64 bits is the shifted timestamp
pub IsShifted-shifted : (a : ℕ) (s : ℤ) → FitsSigned w64 s → IsShifted a s (shifted a s)
IsShifted-shifted a s fits =
    record {
      in_era = omega arith;
      turns = (a + cast_unsigned w64 s) / 2 ^ 64;
      turns_back = cast_unsigned w64 s / 2 ^ 63;
      congruent = omega (arith, ints);
    }

-- two numbers that are the difference are equal
pub diff_unique : (a b : ℕ) (d e : ℤ) → IsDiff a b d → IsDiff a b e → d ≡ e
diff_unique a b d e is other = omega (arith, ints)

-- two timestamps that are the shifted one are equal
pub shifted_unique : (a : ℕ) (s : ℤ) (t u : ℕ) → IsShifted a s t → IsShifted a s u → t ≡ u
shifted_unique a s t u is other = omega (arith, ints)
