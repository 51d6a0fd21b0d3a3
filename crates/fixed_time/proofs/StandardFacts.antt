-- Worked values. The first two are the offset and the delay of a reply over the end of an era (RFC 5905, section 8, figure 15).
use Rattle.std.proofs.Common.{◌≡◌, ℕ, [], ◌∷◌, pos, negsuc, ◌-◌, ◌^◌, ◌+ℤ◌, ◌-ℤ◌, refl, lit≤, lit<}
use Rattle.std.specs.Prelude.{int_div}
use Rattle.fixed_time.specs.declared.apart.TheConstants.{CAP}
use Rattle.fixed_time.specs.declared.time.TheConstants.{MAX_DISPERSION, PHI}
use Rattle.fixed_time.specs.Time.{diff_of, shifted, to_short_of, drift_of}
use Rattle.fixed_time.specs.Apart.{squared_apart_of}
use Rattle.fixed_time.specs.Order.{arranged}
use Rattle.fixed_time.specs.Root.{root}
use Rattle.fixed_time.proofs.RootLemmas.{root_is}

-- 15 parts per million, and 16 seconds (section 7.2)
PHI-is : PHI ≡ 15
PHI-is = refl

MAX_DISPERSION-is : MAX_DISPERSION ≡ 68719476736
MAX_DISPERSION-is = refl

CAP-is : CAP ≡ 2 ^ 60
CAP-is = refl

-- the four timestamps: half a second before the era's end, one second after it, the same, half a second after it
abbrev origin : ℕ
origin = 0xffff_ffff_8000_0000

abbrev receive : ℕ
receive = 0x1_0000_0000

abbrev destination : ℕ
destination = 0x8000_0000

offset_of_a_second : int_div (diff_of receive origin +ℤ diff_of receive destination) (pos 2) ≡ pos 4294967296
offset_of_a_second = refl

delay_of_a_second : diff_of destination origin -ℤ diff_of receive receive ≡ pos 4294967296
delay_of_a_second = refl

half_an_era_is_negative : diff_of (2 ^ 63) 0 ≡ negsuc (2 ^ 63 - 1)
half_an_era_is_negative = refl

back_over_the_end : shifted destination (negsuc 4294967295) ≡ origin
back_over_the_end = refl

short_of_one_unit : to_short_of 1 ≡ 1
short_of_one_unit = refl

longest_short : to_short_of (2 ^ 64 - 1) ≡ 2 ^ 32 - 1
longest_short = refl

drift_of_a_second : drift_of 4294967296 15 ≡ 64425
drift_of_a_second = refl

-- a jitter of two offsets, 0 and 3000 apart
root_of_a_jitter : 2121 ≡ root 4500000
root_of_a_jitter = root_is 4500000 2121 record { square_within = lit≤ tt; greatest = lit< tt }

-- 1, 4 and 2 in order, where the two ones are told apart by the second number
ones_as_they_stood : arranged (λ (x : ℕ × ℕ). x.0) ((1, 7) ∷ (4, 0) ∷ (1, 8) ∷ (2, 0) ∷ []) ≡ (1, 7) ∷ (1, 8) ∷ (2, 0) ∷ (4, 0) ∷ []
ones_as_they_stood = refl

apart_by_the_cap : squared_apart_of (negsuc (2 ^ 63 - 1)) (pos (2 ^ 63 - 1)) ≡ 2 ^ 120
apart_by_the_cap = refl
