-- Sums of signed 128-bit numbers that do not wrap, and the time of a clock at its base.
use Rattle.std.proofs.Common.{◌≡◌, ℕ, suc, ◌+◌, ◌-◌, ◌*◌, ◌<◌, ◌^◌, min, ℤ, pos, negsuc, neg_ℤ, ◌+ℤ◌, ◌≤ℤ◌, ap, ◌∙◌, arith}
use Rattle.std.specs.Int.{int_div_euclid}
use Rattle.std.proofs.lemmas.Int.{ints}
use Rattle.discipline.specs.SoftClock.{clock_time, share_of, timestamp_of}
use Rattle.discipline.specs.declared.soft_clock.SoftClock.{SoftClock}
use mir.Syntax.{w128}
use mir.Val.{to_z, of_z}

-- a number as 128 bits have it
abbrev kept : ℤ → ℤ
kept z = to_z w128 (of_z w128 z)

-- a time, what has passed, and two shares add up within 128 bits
kept-sum : (time passed : ℕ) (drifted slewed : ℤ) → time < 2 ^ 64 → passed < 2 ^ 64 → neg_ℤ (pos (2 ^ 63)) ≤ℤ drifted → drifted ≤ℤ pos (2 ^ 63) → neg_ℤ (pos (2 ^ 63)) ≤ℤ slewed → slewed ≤ℤ pos (2 ^ 63) → kept (kept (kept (kept (pos time) +ℤ kept (pos passed)) +ℤ kept drifted) +ℤ kept slewed) ≡ pos (time + passed) +ℤ drifted +ℤ slewed
kept-sum time passed drifted slewed t p d1 d2 s1 s2 = omega (arith, ints)

-- the same under the reduction modulo 2^64, for parts that are known by equations
pub timestamp-sum : (result time passed : ℕ) (t p drifted slewed first second : ℤ) → result ≡ timestamp_of (kept (kept (kept (kept t +ℤ kept p) +ℤ kept drifted) +ℤ kept slewed)) → t ≡ pos time → p ≡ pos passed → drifted ≡ first → slewed ≡ second → time < 2 ^ 64 → passed < 2 ^ 64 → neg_ℤ (pos (2 ^ 63)) ≤ℤ drifted → drifted ≤ℤ pos (2 ^ 63) → neg_ℤ (pos (2 ^ 63)) ≤ℤ slewed → slewed ≤ℤ pos (2 ^ 63) → result ≡ timestamp_of (pos (time + passed) +ℤ first +ℤ second)
timestamp-sum result time passed t p drifted slewed first second is is_t is_p is_first is_second fits_t fits_p d1 d2 s1 s2 =
    let sum = kept-sum time passed drifted slewed fits_t fits_p d1 d2 s1 s2 in
    let same : kept (kept (kept (kept t +ℤ kept p) +ℤ kept drifted) +ℤ kept slewed) ≡ pos (time + passed) +ℤ first +ℤ second = cc in
    is ∙ ap timestamp_of same

-- a time reads as a timestamp
timestamp_below : (time : ℤ) → timestamp_of time < 2 ^ 64
timestamp_below (pos n) = omega arith
timestamp_below (negsuc n) = omega arith

pub time_below : (clock : SoftClock) (moment : ℕ) → clock_time clock moment < 2 ^ 64
unfolding clock_time
time_below clock moment = timestamp_below _

-- no rate has a share of no time
no_share : (rate : ℤ) → share_of 0 rate ≡ pos 0
no_share (pos n) = omega (arith, ints)
no_share (negsuc n) =
    let none : 0 * suc n ≡ 0 = omega arith in
    ap (λ m. int_div_euclid (neg_ℤ (pos m)) (pos (2 ^ 32))) none

-- a clock that counts from a moment has its own time there
pub time_at_base : (now time : ℕ) (freq slew : ℤ) → time < 2 ^ 64 → clock_time (record { base = now; ntp = record { 0 = time }; freq = freq; slew = slew }) now ≡ time
unfolding clock_time
time_at_base now time freq slew small =
    let none : now - now ≡ 0 = omega arith in
    ap (λ since. timestamp_of (pos (time + since) +ℤ share_of since freq +ℤ share_of (min since (64 * 2 ^ 32)) slew)) none
    ∙ ap (λ drifted. timestamp_of (pos (time + 0) +ℤ drifted +ℤ share_of 0 slew)) (no_share freq)
    ∙ ap (λ slewed. timestamp_of (pos (time + 0) +ℤ pos 0 +ℤ slewed)) (no_share slew)
    ∙ omega (arith, ints)
