-- The jitter of two or more samples, in terms of the first.
use Rattle.std.proofs.Common.{◌≡◌, ◌-◌, ◌/◌, ◌<◌, ◌≤◌, List, [], ◌∷◌, length, get_or, max, refl, ap, arith}
use Rattle.fixed_time.specs.Root.{root}
use Rattle.clock_filter.specs.declared.samples.Sample.{Sample}
use Rattle.clock_filter.specs.declared.estimates.TheConstants.{MIN_JITTER}
use Rattle.clock_filter.specs.Estimates.{jitter_of, mean_root, spread}

-- the mean root of samples is about their first one
pub mean_root_is : (sorted : List Sample) (d : Sample) → 0 < length sorted → mean_root sorted ≡ root (spread (get_or sorted 0 d).offset.0 sorted / (length sorted - 1))
mean_root_is [] d some = absurd (omega arith)
mean_root_is (first ∷ rest) d some =
    let fewer : length rest ≡ length (first ∷ rest) - 1 = omega arith in
    ap (λ n. root (spread first.offset.0 (first ∷ rest) / n)) fewer

-- with two samples or more the jitter is that root, or the least one
pub jitter_of_two : (sorted : List Sample) → 2 ≤ length sorted → jitter_of sorted ≡ max MIN_JITTER (mean_root sorted)
jitter_of_two [] two = absurd (omega arith)
jitter_of_two (first ∷ []) two = absurd (omega arith)
jitter_of_two (first ∷ next ∷ rest) two = refl

-- with fewer it is the least one
pub jitter_of_one : (sorted : List Sample) → length sorted < 2 → jitter_of sorted ≡ MIN_JITTER
jitter_of_one [] one = refl
jitter_of_one (first ∷ []) one = refl
jitter_of_one (first ∷ next ∷ rest) one = absurd (omega arith)
