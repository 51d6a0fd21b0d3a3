-- The time of a software clock: our own rule, after the phase and frequency corrections of RFC 5905, section 11.3.
use Rattle.std.specs.Prelude.{ℕ, ◌+◌, ◌-◌, ◌*◌, ◌^◌, min, pos, ◌+ℤ◌, ◌*ℤ◌, ℤ, unsigned_abs}
use Rattle.std.specs.Int.{int_div_euclid, int_rem_euclid}
use Rattle.discipline.specs.declared.soft_clock.SoftClock.{SoftClock}

-- the share that a rate, in units of 2^-32, has of a time, rounded down
abbrev pub share_of : ℕ → ℤ → ℤ
share_of time rate = int_div_euclid (pos time *ℤ rate) (pos (2 ^ 32))

-- a time as a timestamp: what is congruent to it modulo 2^64
abbrev pub timestamp_of : ℤ → ℕ
timestamp_of time = unsigned_abs (int_rem_euclid time (pos (2 ^ 64)))

-- the clock's time: what has passed since its base, the frequency's share of that, and the slew's share of its first 64 seconds
unfoldable pub clock_time : SoftClock → ℕ → ℕ
clock_time clock moment =
    let since = moment - clock.base in
    timestamp_of (pos (clock.ntp.0 + since) +ℤ share_of since clock.freq +ℤ share_of (min since (64 * 2 ^ 32)) clock.slew)

-- the clock counted on from another moment, without its slew
abbrev pub rebased : SoftClock → ℕ → SoftClock
rebased clock now = record { base = now; ntp = record { 0 = clock_time clock now }; freq = clock.freq; slew = pos 0 }
