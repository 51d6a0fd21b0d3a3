-- Constants by their numbers (RFC 5905, section 11.3 and appendix A), and worked times of a software clock, updates and ticks of a discipline.
use Rattle.std.proofs.Common.{◌≡◌, ◌+◌, ◌-◌, ◌*◌, ◌^◌, ℤ, pos, negsuc, refl}
use Rattle.discipline.specs.SoftClock.{clock_time}
use Rattle.discipline.specs.Feedback.{LoopState, change_of, updated}
use Rattle.discipline.specs.Frequency.{adjusting_gain, stepping_gain, held}
use Rattle.discipline.specs.Slew.{slew_of, left_after}
use Rattle.discipline.specs.declared.soft_clock.SoftClock.{SoftClock}
use Rattle.discipline.specs.declared.state.State.{State}
use Rattle.discipline.specs.declared.state.State.TheVariants.{Nset, Freq, Spik, Sync}
use Rattle.discipline.specs.declared.feedback.Change.TheVariants as change
use Rattle.discipline.specs.declared.frequency.TheConstants.{MAX_FREQUENCY}
use Rattle.discipline.specs.declared.slew.TheConstants.{MAX_SHARE}
use Rattle.discipline.specs.declared.transitions.TheConstants.{PANIC_THRESHOLD, STEPOUT, STEP_THRESHOLD}

-- 0.128, 900 and 1000 seconds
STEP_THRESHOLD-is : STEP_THRESHOLD ≡ 549755813
STEP_THRESHOLD-is = refl

STEPOUT-is : STEPOUT ≡ 3865470566400
STEPOUT-is = refl

PANIC_THRESHOLD-is : PANIC_THRESHOLD ≡ 4294967296000
PANIC_THRESHOLD-is = refl

-- 500 parts per million, and 64 seconds of them
MAX_FREQUENCY-is : MAX_FREQUENCY ≡ pos 2147483
MAX_FREQUENCY-is = refl

MAX_SHARE-is : MAX_SHARE ≡ pos 137438912
MAX_SHARE-is = refl

-- a clock that begins at 1 January 1970 (RFC 5905, figure 4)
abbrev clock : ℤ → ℤ → SoftClock
clock freq slew = record { base = 0; ntp = record { 0 = 0x83aa7e80 * 2 ^ 32 }; freq = freq; slew = slew }

-- it runs at the rate of its moments
at_rate : clock_time (clock (pos 0) (pos 0)) (2 ^ 32) ≡ 0x83aa7e81 * 2 ^ 32
unfolding clock_time
at_rate = refl

-- the least slowness takes a whole unit from any time: shares are rounded down
slow : clock_time (clock (negsuc 0) (pos 0)) 1 ≡ 0x83aa7e80 * 2 ^ 32
unfolding clock_time
slow = refl

-- a slew acts for 64 seconds
slewed : clock_time (clock (pos 0) (pos 1)) (100 * 2 ^ 32) ≡ (0x83aa7e80 + 100) * 2 ^ 32 + 64
unfolding clock_time
slewed = refl

-- an offset of 0.128 seconds after 64 seconds at poll 6: 2097.15 units
adjusting : adjusting_gain (pos 549755813) 64 6 ≡ pos 2097
adjusting = refl

-- of a longer time only the poll interval counts, and gains are rounded toward zero
adjusting_late : adjusting_gain (negsuc 549755812) 5000 6 ≡ negsuc 2096
adjusting_late = refl

-- one millisecond in 1000 seconds is one part in a million, 4294.967 units
stepping : stepping_gain (pos 4294967) 1000 ≡ pos 4294
stepping = refl

stepping_at_once : stepping_gain (negsuc 4) 0 ≡ negsuc 4
stepping_at_once = refl

-- 600 ppm become 500
too_fast : held (pos 2576980) ≡ pos 2147483
too_fast = refl

too_slow : held (negsuc 2576980) ≡ negsuc 2147482
too_slow = refl

-- 34,359,738 is a sixteenth of the residual, and 536,870 a 64th of that
slewing : slew_of (pos 549755813) ≡ pos 536870
slewing = refl

left : left_after (pos 549755813) ≡ pos 515396133
left = refl

-- no slew is over 500 ppm
slewing_fast : slew_of (negsuc (2 ^ 63 - 1)) ≡ negsuc 2147482
slewing_fast = refl

-- a discipline whose last update was at 0
abbrev after_update : State → LoopState
after_update state = record { clock = clock (pos 0) (pos 0); state = state; residual = pos 0; since = 0 }

-- 0.128 seconds, rounded down, is a small offset, and a unit more is a spike
small : change_of (after_update Sync) (pos 549755813) (64 * 2 ^ 32) ≡ change.Adjusted
small = refl

spike : change_of (after_update Sync) (pos 549755814) (64 * 2 ^ 32) ≡ change.Ignored
spike = refl

spiked : updated (after_update Sync) (pos 549755814) 6 (64 * 2 ^ 32) ≡ record (after_update Spik) { since = 64 * 2 ^ 32 }
spiked = refl

-- it is believed after 900 seconds, and no moment before
not_believed : change_of (after_update Spik) (pos 549755814) (900 * 2 ^ 32 - 1) ≡ change.Ignored
not_believed = refl

believed : change_of (after_update Spik) (pos 549755814) (900 * 2 ^ 32) ≡ change.Stepped
believed = refl

-- 1000 seconds are no panic, and a unit more is one, but where no time was set yet
at_the_threshold : change_of (after_update Freq) (negsuc (1000 * 2 ^ 32 - 1)) 0 ≡ change.Ignored
at_the_threshold = refl

panic : change_of (after_update Freq) (negsuc (1000 * 2 ^ 32)) 0 ≡ change.Panic
panic = refl

no_panic : change_of (after_update Nset) (negsuc (1000 * 2 ^ 32)) 0 ≡ change.Stepped
no_panic = refl
