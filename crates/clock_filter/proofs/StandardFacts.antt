-- Worked values: the constants, the first sample of a filter, the order of three, and the edges of stages and jitter.
use Rattle.std.proofs.Common.{◌≡◌, ℕ, ◌+◌, ◌*◌, List, [], ◌∷◌, None, Some, length, pos, refl, replicate, sym, arith}
use Rattle.fixed_time.proofs.RootLemmas.{root_is}
use Rattle.fixed_time.specs.Order.{arranged}
use Rattle.clock_filter.specs.declared.estimates.TheConstants.{MIN_JITTER}
use Rattle.clock_filter.specs.declared.samples.Sample.{Sample}
use Rattle.clock_filter.specs.declared.samples.TheConstants.{STAGES}
use Rattle.clock_filter.specs.Estimates.{dispersion_of, estimate_of, jitter_of}
use Rattle.clock_filter.specs.Samples.{aged, delay_of, next_samples}

-- a sample with the given delay, dispersion and moment
abbrev sample : ℕ → ℕ → ℕ → Sample
sample delay disp at = record { offset = record { 0 = pos 1000 }; delay = delay; disp = disp; at = at }

-- 8192 / 2, and 16 seconds by 4, 8 and so on up to 256
first_dispersion : dispersion_of (sample 8192 8192 1 ∷ []) ≡ 34091307008
first_dispersion = refl

first_jitter : jitter_of (sample 8192 8192 1 ∷ []) ≡ 4096
first_jitter = refl

-- of equal delays the newer comes first
newer_first : arranged delay_of (sample 9 0 3 ∷ sample 7 0 2 ∷ sample 7 0 1 ∷ []) ≡ sample 7 0 2 ∷ sample 7 0 1 ∷ sample 9 0 3 ∷ []
newer_first = refl

-- no estimate where the first sample is the one that gave the last
once_only : estimate_of (Some 1) (sample 8192 8192 1 ∷ []) ≡ None
once_only = refl

-- no dispersion grows over 16 seconds
grown : (aged 68719476736 (sample 1 5 1)).disp ≡ 68719476736
grown = refl

STAGES-is : STAGES ≡ 8
STAGES-is = refl

MIN_JITTER-is : MIN_JITTER ≡ 4096
MIN_JITTER-is = refl

-- the eighth sample is kept, and the ninth dropped
eighth : length (next_samples (sample 1 0 8) 0 (replicate 7 (sample 1 0 0))) ≡ 8
eighth = refl

ninth : length (next_samples (sample 1 0 9) 0 (replicate 8 (sample 1 0 0))) ≡ 8
ninth = refl

-- the jitters of two samples whose offsets are so many units apart, just under the least one and just over it
abbrev apart : ℕ → List Sample
apart units = sample 1 0 2 ∷ record (sample 1 0 1) { offset = record { 0 = pos (1000 + units) } } ∷ []

just_under : jitter_of (apart 4095) ≡ 4096
just_under = rw (sym (root_is (4095 * 4095) 4095 (record { square_within = omega arith; greatest = omega arith }))) refl

just_over : jitter_of (apart 4097) ≡ 4097
just_over = rw (sym (root_is (4097 * 4097) 4097 (record { square_within = omega arith; greatest = omega arith }))) refl
