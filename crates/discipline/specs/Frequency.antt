-- The frequency of the clock discipline, and what an update adds to it: our own rule, after the gains of RFC 5905, appendix A.5.5.6, in whole numbers.
use Rattle.std.specs.Prelude.{ℕ, ℤ, pos, neg_ℤ, ◌+◌, ◌*◌, ◌^◌, ◌+ℤ◌, ◌*ℤ◌, ◌≤ℤ◌, int_div, max, min}
use Rattle.std.specs.Int.{int_max, int_min}
use Rattle.discipline.specs.declared.transitions.Effect.{Effect}
use Rattle.discipline.specs.declared.transitions.Effect.TheVariants.{Kept, Adjusted, Stepped}
use Rattle.discipline.specs.declared.frequency.TheConstants.{MAX_FREQUENCY}

-- a frequency is at most 500 ppm either way
pub record IsFrequency (freq : ℤ) : Type 0 where
  pub low : neg_ℤ MAX_FREQUENCY ≤ℤ freq
  pub high : freq ≤ℤ MAX_FREQUENCY

-- a number held within these bounds
abbrev pub held : ℤ → ℤ
held freq = int_max (neg_ℤ MAX_FREQUENCY) (int_min freq MAX_FREQUENCY)

-- adjusting adds the offset's part for the seconds since the last update, at most a poll interval, toward zero
abbrev pub adjusting_gain : ℤ → ℕ → ℕ → ℤ
adjusting_gain offset seconds poll = int_div (offset *ℤ pos (min seconds (2 ^ poll))) (pos (2 ^ (12 + 2 * poll)))

-- stepping adds the whole offset by the seconds over which it grew, toward zero
abbrev pub stepping_gain : ℤ → ℕ → ℤ
stepping_gain offset seconds = int_div offset (pos (max 1 seconds))

-- the frequency after an update
abbrev pub frequency_after : Effect → ℤ → ℤ → ℕ → ℕ → ℤ
frequency_after Kept freq offset seconds poll = freq
frequency_after Adjusted freq offset seconds poll = held (freq +ℤ adjusting_gain offset seconds poll)
frequency_after Stepped freq offset seconds poll = held (freq +ℤ stepping_gain offset seconds)
