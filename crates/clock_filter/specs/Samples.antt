-- The samples of a clock filter, newest first (RFC 5905, section 10; the order of the steps and the cap of ageing are our own rules).
use Rattle.std.specs.Prelude.{ℕ, ◌+◌, ◌-◌, List, ◌∷◌, ◌++◌, Option, None, Some, length, map, min, replicate, take}
use Rattle.clock_filter.specs.declared.samples.Sample.{Sample}
use Rattle.clock_filter.specs.declared.samples.TheConstants.{STAGES}
use Rattle.fixed_time.specs.declared.time.TheConstants.{MAX_DISPERSION}

-- samples are put in order by their delay
abbrev pub delay_of : Sample → ℕ
delay_of s = s.delay

-- a sample whose dispersion has grown, up to 16 seconds
abbrev pub aged : ℕ → Sample → Sample
aged by s = record s { disp = min (s.disp + by) MAX_DISPERSION }

-- the stages after a put: the new sample, then the aged ones, as many as there are stages
abbrev pub next_samples : Sample → ℕ → List Sample → List Sample
next_samples s by samples = s ∷ map (aged by) (take (STAGES - 1) samples)

-- the eight stages, newest first: those behind the samples have none
abbrev pub stages_of : List Sample → List (Option Sample)
stages_of samples = map Some samples ++ replicate (STAGES - length samples) None
