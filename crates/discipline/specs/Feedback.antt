-- The clock discipline loop (RFC 5905, sections 11.3 and 12; that the clock counts on from each change, and that a moment before the last one counts as no time, are our own rules).
use Rattle.std.specs.Prelude.{ℕ, ℤ, pos, ◌≡◌, ◌≢◌, ◌-◌, ◌/◌, ◌^◌, ◌<◌, ◌≤◌, ◌⊎◌, Option, None, Some, unsigned_abs, if◌then◌else◌}
use Rattle.fixed_time.specs.Time.{shifted}
use Rattle.discipline.specs.declared.soft_clock.SoftClock.{SoftClock}
use Rattle.discipline.specs.declared.state.State.{State}
use Rattle.discipline.specs.declared.state.State.TheVariants.{Nset, Fset, Spik, Freq, Sync}
use Rattle.discipline.specs.declared.transitions.Effect.{Effect}
use Rattle.discipline.specs.declared.transitions.Effect.TheVariants.{Kept, Adjusted, Stepped}
use Rattle.discipline.specs.declared.transitions.Row.{Row}
use Rattle.discipline.specs.declared.transitions.TheConstants.{STEP_THRESHOLD, STEPOUT, PANIC_THRESHOLD}
use Rattle.discipline.specs.declared.feedback.Change.{Change}
use Rattle.discipline.specs.declared.feedback.Change.TheVariants as change
use Rattle.discipline.specs.Frequency.{frequency_after}
use Rattle.discipline.specs.Slew.{left_after, slew_of}
use Rattle.discipline.specs.SoftClock.{clock_time, rebased}
use Rattle.discipline.specs.Transitions.{is_early, is_large, is_panic, row_of}

-- the clock, the state, the part of the offset that is left to correct, and the moment from which the stepout threshold counts
pub record LoopState : Type 0 where
  pub clock : SoftClock
  pub state : State
  pub residual : ℤ
  pub since : ℕ

-- a new loop: FSET at a frequency that is known, else NSET at 0 (figure 28)
abbrev pub begun : SoftClock → Option ℤ → LoopState
begun clock None = record { clock = record clock { freq = pos 0 }; state = Nset; residual = pos 0; since = clock.base }
begun clock (Some freq) = record { clock = record clock { freq = freq }; state = Fset; residual = pos 0; since = clock.base }

-- the whole seconds from one moment to another, none where that is earlier
abbrev pub seconds_between : ℕ → ℕ → ℕ
seconds_between since now = (now - since) / 2 ^ 32

-- the row of the table for an update
abbrev pub row_for : LoopState → ℤ → ℕ → Row
row_for old offset now = row_of old.state (is_large offset) (is_early old.since now)

-- an update that is ignored: from SYNC the stepout threshold counts anew, in every other state it counts on (our own rule)
abbrev pub since_after : LoopState → ℕ → ℕ
since_after old now = elim old.state [ Sync ↦ now | _ ↦ old.since ]

-- the clock counts on from now, at the frequency that the row gives it
abbrev pub steered : Row → LoopState → ℤ → ℕ → ℕ → SoftClock
steered row old offset poll now =
    record (rebased old.clock now) { freq = frequency_after row.freq old.clock.freq offset (seconds_between old.since now) poll }

-- the loop after a row that does this to the time: adjusting leaves the offset to correct, stepping corrects it at once
abbrev pub moved : Effect → Row → LoopState → ℤ → ℕ → ℕ → LoopState
moved Kept row old offset poll now = record old { state = row.next; since = since_after old now }
moved Adjusted row old offset poll now = record { clock = steered row old offset poll now; state = row.next; residual = offset; since = now }
moved Stepped row old offset poll now = record {
  clock = record (steered row old offset poll now) { ntp = record { 0 = shifted (clock_time old.clock now) offset } };
  state = row.next;
  residual = pos 0;
  since = now;
}

-- the loop after an update: a panic leaves it as it is
abbrev pub updated : LoopState → ℤ → ℕ → ℕ → LoopState
updated old offset poll now =
    if is_panic old.state offset
    then old
    else moved (row_for old offset now).time (row_for old offset now) old offset poll now

-- what the effect on the time is called
abbrev pub answer_of : Effect → Change
answer_of Kept = change.Ignored
answer_of Adjusted = change.Adjusted
answer_of Stepped = change.Stepped

-- what an update answers: by the row of the table, or a panic
abbrev pub change_of : LoopState → ℤ → ℕ → Change
change_of old offset now = if is_panic old.state offset then change.Panic else answer_of (row_for old offset now).time

-- a tick: the clock counts on from now, and a part of the residual goes into its slew (section 12)
abbrev pub ticked : LoopState → ℕ → LoopState
ticked old now = record {
  clock = record (rebased old.clock now) { slew = slew_of old.residual };
  state = old.state;
  residual = left_after old.residual;
  since = old.since;
}

-- the panic rule in words: over the panic threshold, in a state that knows a time (that NSET is excepted is our own rule)
abbrev pub IsRefused : LoopState → ℤ → Type 0
IsRefused old offset = (old.state ≢ Nset) × (PANIC_THRESHOLD < unsigned_abs offset)

-- a large offset is believed at once in NSET and FSET, and elsewhere after the stepout threshold
abbrev pub IsBelieved : LoopState → ℕ → Type 0
IsBelieved old now = ((old.state ≡ Nset) ⊎ (old.state ≡ Fset)) ⊎ (STEPOUT ≤ now - old.since)

-- the time is stepped by a large offset that is believed
abbrev pub IsStep : LoopState → ℤ → ℕ → Type 0
IsStep old offset now = (¬ (IsRefused old offset)) × (STEP_THRESHOLD < unsigned_abs offset) × IsBelieved old now

-- the time is adjusted by a small offset, but not as long as FREQ measures
abbrev pub IsAdjustment : LoopState → ℤ → ℕ → Type 0
IsAdjustment old offset now = (unsigned_abs offset ≤ STEP_THRESHOLD) × (old.state ≡ Freq → STEPOUT ≤ now - old.since)

-- before the stepout threshold, FREQ ignores every offset, and SPIK and SYNC a large one
abbrev pub IsIgnored : LoopState → ℤ → ℕ → Type 0
IsIgnored old offset now =
    (¬ (IsRefused old offset)) × (now - old.since < STEPOUT) × ((old.state ≡ Freq) ⊎ ((STEP_THRESHOLD < unsigned_abs offset) × ((old.state ≡ Spik) ⊎ (old.state ≡ Sync))))

-- after an ignored update SYNC is SPIK, whose stepout threshold counts from now, and nothing else changes
abbrev pub ignoring : LoopState → ℕ → LoopState
ignoring old now = elim old.state [ Sync ↦ record old { state = Spik; since = now } | _ ↦ old ]
