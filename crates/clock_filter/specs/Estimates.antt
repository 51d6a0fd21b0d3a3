-- What a clock filter tells of its samples, by delay and least first (RFC 5905, section 10; the roundings, the least jitter and that the mean is taken under the root are our own rules).
use Rattle.std.specs.Prelude.{ℕ, ℤ, ◌+◌, ◌/◌, ◌^◌, List, [], ◌∷◌, Option, None, Some, Bool, true, map, sum_by, length, max, nat_lt, slice_index_or, if◌then◌else◌}
use Rattle.std.specs.List.{range_with_len}
use Rattle.fixed_time.specs.Apart.{squared_apart_of}
use Rattle.fixed_time.specs.Root.{root}
use Rattle.clock_filter.specs.declared.samples.Sample.{Sample}
use Rattle.clock_filter.specs.declared.samples.TheConstants.{STAGES}
use Rattle.fixed_time.specs.declared.time.TheConstants.{MAX_DISPERSION}
use Rattle.clock_filter.specs.declared.estimates.Estimate.{Estimate}
use Rattle.clock_filter.specs.declared.estimates.TheConstants.{MIN_JITTER}

-- the dispersion at a place: a missing sample counts 16 seconds
abbrev pub disp_at : List Sample → ℕ → ℕ
disp_at sorted i = slice_index_or (map (λ s. s.disp) sorted) i MAX_DISPERSION

-- the sum over eight places, the first by 2, the next by 4 and so on, each quotient rounded down
abbrev pub dispersion_of : List Sample → ℕ
dispersion_of sorted = sum_by (λ i. disp_at sorted i / 2 ^ (i + 1)) (range_with_len 0 STAGES)

-- the squares of how far the offsets are from one, summed up
abbrev pub spread : ℤ → List Sample → ℕ
spread about samples = sum_by (λ s. squared_apart_of s.offset.0 about) samples

-- their root about the first one, after division by one less than the samples
abbrev pub mean_root : List Sample → ℕ
mean_root [] = 0
mean_root (first ∷ rest) = root (spread first.offset.0 (first ∷ rest) / length rest)

-- the jitter: the least one for a single sample
abbrev pub jitter_of : List Sample → ℕ
jitter_of [] = MIN_JITTER
jitter_of (first ∷ []) = MIN_JITTER
jitter_of (first ∷ next ∷ rest) = max MIN_JITTER (mean_root (first ∷ next ∷ rest))

-- a moment is later than the last one, where there was one
abbrev pub is_later : Option ℕ → ℕ → Bool
is_later None at = true
is_later (Some last) at = nat_lt last at

-- the estimate of samples in order of delay: there is one where the first is later than the sample that gave the last
abbrev pub estimate_of : Option ℕ → List Sample → Option Estimate
estimate_of last [] = None
estimate_of last (first ∷ rest) =
    if is_later last first.at
    then Some (record {
      offset = first.offset;
      delay = first.delay;
      disp = dispersion_of (first ∷ rest);
      jitter = jitter_of (first ∷ rest);
      at = first.at;
    })
    else None
