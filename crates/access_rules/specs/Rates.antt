-- How often a client may ask. The score is our own rule, after the leaky bucket of NTPsec's rate limiting.
use Rattle.std.specs.Prelude.{ℕ, ◌+◌, ◌-◌, ◌*◌, ◌/◌, ◌^◌, min, nat_lt, Bool}
use Rattle.access_rules.specs.declared.rate.Rate.{Rate}
use Rattle.access_rules.specs.declared.rate.TheConstants.{ARRIVAL_SCORE, PLAIN_AVERAGE, PLAIN_BURST, PLAIN_SPACING}

-- what leaks out of a score in so many of 32.32 seconds: an arrival's worth at the average rate
abbrev pub leak_of : Rate → ℕ → ℕ
leak_of rate dt = dt * rate.average * 1000 / 2 ^ 32

-- the score after an arrival, up to 2^32 - 1
abbrev pub score_of : Rate → ℕ → ℕ → ℕ
score_of rate old dt = min ((old - leak_of rate dt) + ARRIVAL_SCORE) (2 ^ 32 - 1)

-- the score is over that of a burst
abbrev pub is_over : Rate → ℕ → Bool
is_over rate score = nat_lt (ARRIVAL_SCORE * rate.burst) score

-- the rate where nothing else is said: 60 arrivals a minute, 20 at once, and 2 seconds between two kiss codes
abbrev pub plain_rate : Rate
plain_rate = record { average = PLAIN_AVERAGE; burst = PLAIN_BURST; spacing = PLAIN_SPACING }
