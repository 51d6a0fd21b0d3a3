-- Times in units of 2^-32 seconds (RFC 5905, section 6; the roundings and the caps are our own rules).
use Rattle.std.specs.Prelude.{ℕ, ℤ, pos, ◌≡◌, ◌<◌, ◌+◌, ◌-◌, ◌*◌, ◌/◌, ◌%◌, ◌^◌, ◌+ℤ◌, min, FitsSigned}
use Rattle.std.specs.Int.{w64, cast_signed, cast_unsigned}

-- d is congruent to a - b modulo 2^64, and lies from -2^63 to 2^63 - 1
pub record IsDiff (a b : ℕ) (d : ℤ) : Type 0 where
  pub in_range : FitsSigned w64 d
  pub turns : ℕ
  pub turns_back : ℕ
  pub congruent : pos (a + turns * 2 ^ 64) ≡ pos (b + turns_back * 2 ^ 64) +ℤ d

-- that number, as the signed reading of 64 bits
abbrev pub diff_of : ℕ → ℕ → ℤ
diff_of a b = cast_signed w64 ((a + (2 ^ 64 - b)) % 2 ^ 64)

-- t is congruent to a + s modulo 2^64, and below 2^64
pub record IsShifted (a : ℕ) (s : ℤ) (t : ℕ) : Type 0 where
  pub in_era : t < 2 ^ 64
  pub turns : ℕ
  pub turns_back : ℕ
  pub congruent : pos (t + turns * 2 ^ 64) ≡ pos (a + turns_back * 2 ^ 64) +ℤ s

-- that timestamp, as a sum of 64 bits
abbrev pub shifted : ℕ → ℤ → ℕ
shifted a s = (a + cast_unsigned w64 s) % 2 ^ 64

-- 32.32 seconds as 16.16 seconds, rounded up, at most the longest short time
abbrev pub to_short_of : ℕ → ℕ
to_short_of n = min ((n + (2 ^ 16 - 1)) / 2 ^ 16) (2 ^ 32 - 1)

-- `ppm` millionths of a time, rounded up, at most the longest time
abbrev pub drift_of : ℕ → ℕ → ℕ
drift_of dt ppm = min ((dt * ppm + (10 ^ 6 - 1)) / 10 ^ 6) (2 ^ 64 - 1)
