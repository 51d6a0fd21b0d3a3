-- The state of a clock filter, and what a put makes of it (RFC 5905, section 10).
use Rattle.std.specs.Prelude.{ℕ, ◌-◌, List, [], Option, None, Some}
use Rattle.fixed_time.specs.Order.{arranged}
use Rattle.fixed_time.specs.Time.{drift_of}
use Rattle.fixed_time.specs.declared.time.TheConstants.{PHI}
use Rattle.clock_filter.specs.declared.samples.Sample.{Sample}
use Rattle.clock_filter.specs.declared.estimates.Estimate.{Estimate}
use Rattle.clock_filter.specs.Estimates.{estimate_of}
use Rattle.clock_filter.specs.Samples.{delay_of, next_samples}

-- the samples, newest first; the moment of the last put; when the sample of the last estimate arrived
pub record FilterState : Type 0 where
  pub samples : List Sample
  pub put_at : ℕ
  pub given_at : Option ℕ

-- a filter that has no samples yet
abbrev pub empty_state : FilterState
empty_state = record { samples = []; put_at = 0; given_at = None }

-- the samples after one more at a moment: the dispersions of the others grow by the time since the last put
abbrev pub samples_after : FilterState → Sample → ℕ → List Sample
samples_after filter sample moment = next_samples sample (drift_of (moment - filter.put_at) PHI) filter.samples

-- the estimate that these samples give, by delay, if they do
abbrev pub estimate_after : FilterState → Sample → ℕ → Option Estimate
estimate_after filter sample moment =
    estimate_of filter.given_at (arranged delay_of (samples_after filter sample moment))

-- when the sample of the last estimate arrived, after one more answer
abbrev pub last_given : Option ℕ → Option Estimate → Option ℕ
last_given last None = last
last_given last (Some estimate) = Some estimate.at

-- the filter after a sample at a moment
abbrev pub filter_after : FilterState → Sample → ℕ → FilterState
filter_after filter sample moment = record {
  samples = samples_after filter sample moment;
  put_at = moment;
  given_at = last_given filter.given_at (estimate_after filter sample moment);
}
