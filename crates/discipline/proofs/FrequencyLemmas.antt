-- Bounds of what is added to a frequency, and the sum as the code has it.
use Rattle.std.proofs.Common.{◌≡◌, ℕ, ℤ, suc, pos, negsuc, ◌^◌, ◌<◌, ◌≤◌, ◌+ℤ◌, ◌*ℤ◌, ◌≤ℤ◌, neg_ℤ, FitsSigned, lit<, ap, ◌∙◌, arith}
use Rattle.std.specs.Prelude.{int_div, min, unsigned_abs}
use Rattle.std.specs.Int.{w32, w64, w128, cast_signed, cast_unsigned}
use Rattle.std.proofs.Math.Nat.{div-le_self}
use Rattle.std.proofs.lemmas.Int.{ints, to_z-of_z, fits_signed_mul, quot_fits, quot_is}
use Rattle.std.proofs.lemmas.Nat.{mul-le}
use Rattle.discipline.specs.Frequency.{IsFrequency, adjusting_gain, held}

-- an offset as often as a number below 2^32
product_low : (offset : ℤ) (n : ℕ) → FitsSigned w64 offset → n < 2 ^ 32 → neg_ℤ (pos (2 ^ 95)) ≤ℤ (offset *ℤ pos n)
product_low (pos o) n fits few = omega (arith, ints)
product_low (negsuc o) n fits few =
    let below = mul-le (suc o) n (2 ^ 63) (2 ^ 32) (omega (arith, fits.sfits)) (omega arith) in
    omega (arith, ints, below)

product_high : (offset : ℤ) (n : ℕ) → FitsSigned w64 offset → n < 2 ^ 32 → (offset *ℤ pos n) ≤ℤ pos (2 ^ 95)
product_high (pos o) n fits few =
    let below = mul-le o n (2 ^ 63) (2 ^ 32) (omega (arith, fits.sfits)) (omega arith) in
    omega (arith, ints, below)
product_high (negsuc o) n fits few = omega (arith, ints)

-- a quotient is no farther from 0 than what is divided
quotient_low : (z : ℤ) (d bound : ℕ) → neg_ℤ (pos bound) ≤ℤ z → neg_ℤ (pos bound) ≤ℤ int_div z (pos d)
quotient_low (pos a) d bound low = omega (arith, ints)
quotient_low (negsuc a) d bound low = omega (arith, ints, div-le_self (suc a) d)

quotient_high : (z : ℤ) (d bound : ℕ) → z ≤ℤ pos bound → int_div z (pos d) ≤ℤ pos bound
quotient_high (pos a) d bound high = omega (arith, ints, div-le_self a d)
quotient_high (negsuc a) d bound high = omega (arith, ints)

pub gain_low : (offset : ℤ) (seconds poll : ℕ) → FitsSigned w64 offset → seconds < 2 ^ 32 → neg_ℤ (pos (2 ^ 95)) ≤ℤ adjusting_gain offset seconds poll
gain_low offset seconds poll fits few = quotient_low _ _ (2 ^ 95) (product_low offset (min seconds (2 ^ poll)) fits (omega arith))

pub gain_high : (offset : ℤ) (seconds poll : ℕ) → FitsSigned w64 offset → seconds < 2 ^ 32 → adjusting_gain offset seconds poll ≤ℤ pos (2 ^ 95)
gain_high offset seconds poll fits few = quotient_high _ _ (2 ^ 95) (product_high offset (min seconds (2 ^ poll)) fits (omega arith))

offset_abs : (offset : ℤ) → FitsSigned w64 offset → unsigned_abs offset ≤ 2 ^ 63
offset_abs (pos n) fits = omega (arith, fits.sfits)
offset_abs (negsuc n) fits = omega (arith, fits.sfits)

-- a number as 128 bits have it
abbrev kept : ℤ → ℤ
kept z = cast_signed w128 (cast_unsigned w128 z)

-- the code's quotient is the quotient
pub gain_reads : (offset a b d : ℤ) (n k : ℕ) → FitsSigned w64 offset → n < 2 ^ 32 → 0 < k → k < 2 ^ 64 → a ≡ offset → b ≡ pos n → d ≡ pos k → kept (int_div (kept (kept a *ℤ kept b)) (kept d)) ≡ int_div (offset *ℤ pos n) (pos k)
gain_reads offset a b d n k fits few some small a_is b_is d_is =
    let a_reads : kept a ≡ offset = ap kept a_is ∙ to_z-of_z w128 offset (omega (arith, ints)) in
    let b_reads : kept b ≡ pos n = ap kept b_is ∙ to_z-of_z w128 (pos n) (omega (arith, ints)) in
    let product = fits_signed_mul w128 offset (pos n) (2 ^ 63) (2 ^ 32) (offset_abs offset fits) (omega arith) (lit< tt) in
    let divisor : FitsSigned w128 (pos k) = omega (arith, ints) in
    ap (λ z. kept (int_div (kept (z *ℤ kept b)) (kept d))) a_reads
    ∙ ap (λ z. kept (int_div (kept (offset *ℤ z)) (kept d))) b_reads
    ∙ ap (λ z. kept (int_div (kept (offset *ℤ pos n)) (kept z))) d_is
    ∙ quot_is w128 (offset *ℤ pos n) (pos k) product divisor (quot_fits w128 (offset *ℤ pos n) (pos k) product (omega (arith, ints)))

-- the code's sum, held within the bounds
pub sum_held : (result freq f gain exact : ℤ) → FitsSigned w32 freq → result ≡ held (cast_signed w128 (cast_unsigned w128 (cast_signed w128 (cast_unsigned w128 f) +ℤ cast_signed w128 (cast_unsigned w128 gain)))) → f ≡ freq → gain ≡ exact → neg_ℤ (pos (2 ^ 95)) ≤ℤ gain → gain ≤ℤ pos (2 ^ 95) → IsFrequency result → cast_signed w32 (cast_unsigned w32 result) ≡ held (freq +ℤ exact)
sum_held result freq f gain exact fits is f_is gain_is low high bounded =
    let sum : cast_signed w128 (cast_unsigned w128 (cast_signed w128 (cast_unsigned w128 f) +ℤ cast_signed w128 (cast_unsigned w128 gain))) ≡ freq +ℤ exact = omega (arith, ints) in
    let result_fits : FitsSigned w32 result = omega (arith, ints, bounded.low, bounded.high) in
    to_z-of_z w32 result result_fits ∙ is ∙ ap held sum
