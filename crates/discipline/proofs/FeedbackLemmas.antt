-- What an update answers, in words, and where the clock stands after it.
use Rattle.std.proofs.Common.{◌≡◌, ◌≢◌, Bool, true, false, ℕ, ℤ, pos, ◌-◌, ◌<◌, ◌≤◌, ◌⊎◌, ◌↔◌, refl, ap, ◌∙◌, arith}
use Rattle.std.specs.Prelude.{unsigned_abs, if◌then◌else◌}
use Rattle.std.proofs.lemmas.Bool.Decides.{nat_tests}
use Rattle.discipline.specs.declared.state.State.{State}
use Rattle.discipline.specs.declared.state.State.TheVariants.{Nset, Fset, Spik, Freq, Sync}
use Rattle.discipline.specs.declared.transitions.TheConstants.{STEP_THRESHOLD, STEPOUT, PANIC_THRESHOLD}
use Rattle.discipline.specs.declared.feedback.Change.{Change}
use Rattle.discipline.specs.declared.feedback.Change.TheVariants.{Ignored, Adjusted, Stepped, Panic}
use Rattle.discipline.specs.declared.transitions.Effect.{Effect}
use Rattle.discipline.specs.declared.transitions.Effect.TheVariants as on_time
use Rattle.discipline.specs.declared.transitions.Effect.TheVariants.{Kept}
use Rattle.discipline.specs.declared.transitions.Row.{Row}
use Rattle.discipline.specs.Feedback.{LoopState, answer_of, change_of, moved, row_for, updated, IsRefused, IsStep, IsAdjustment, IsIgnored}
use Rattle.discipline.specs.SoftClock.{clock_time}
use Rattle.fixed_time.specs.Time.{shifted}
use Rattle.discipline.proofs.SoftClockLemmas.{time_at_base, time_below}
use Rattle.discipline.specs.Transitions.{is_early, is_large, is_panic, row_of}

-- the answer, by the state and the numbers that it depends on
abbrev answer : State → ℤ → ℕ → ℕ → Change
answer state offset since now = if is_panic state offset then Panic else answer_of (row_of state (is_large offset) (is_early since now)).time

-- where it is a panic
refused_answer : (state : State) (offset : ℤ) (since now : ℕ) → (answer state offset since now ≡ Panic) ↔ ((state ≢ Nset) × (PANIC_THRESHOLD < unsigned_abs offset))
refused_answer Nset offset since now = grind (arith, nat_tests)
refused_answer Fset offset since now = grind (arith, nat_tests)
refused_answer Spik offset since now = grind (arith, nat_tests)
refused_answer Freq offset since now = grind (arith, nat_tests)
refused_answer Sync offset since now = grind (arith, nat_tests)

-- where the time is stepped
stepped_answer : (state : State) (offset : ℤ) (since now : ℕ) → (answer state offset since now ≡ Stepped) ↔ ((¬ ((state ≢ Nset) × (PANIC_THRESHOLD < unsigned_abs offset))) × (STEP_THRESHOLD < unsigned_abs offset) × (((state ≡ Nset) ⊎ (state ≡ Fset)) ⊎ (STEPOUT ≤ now - since)))
stepped_answer Nset offset since now = grind (arith, nat_tests)
stepped_answer Fset offset since now = grind (arith, nat_tests)
stepped_answer Spik offset since now = grind (arith, nat_tests)
stepped_answer Freq offset since now = grind (arith, nat_tests)
stepped_answer Sync offset since now = grind (arith, nat_tests)

-- where it is adjusted
adjusted_answer : (state : State) (offset : ℤ) (since now : ℕ) → (answer state offset since now ≡ Adjusted) ↔ ((unsigned_abs offset ≤ STEP_THRESHOLD) × (state ≡ Freq → STEPOUT ≤ now - since))
adjusted_answer Nset offset since now = grind (arith, nat_tests)
adjusted_answer Fset offset since now = grind (arith, nat_tests)
adjusted_answer Spik offset since now = grind (arith, nat_tests)
adjusted_answer Freq offset since now = grind (arith, nat_tests)
adjusted_answer Sync offset since now = grind (arith, nat_tests)

-- where the offset is ignored
ignored_answer : (state : State) (offset : ℤ) (since now : ℕ) → (answer state offset since now ≡ Ignored) ↔ ((¬ ((state ≢ Nset) × (PANIC_THRESHOLD < unsigned_abs offset))) × (now - since < STEPOUT) × ((state ≡ Freq) ⊎ ((STEP_THRESHOLD < unsigned_abs offset) × ((state ≡ Spik) ⊎ (state ≡ Sync)))))
ignored_answer Nset offset since now = grind (arith, nat_tests)
ignored_answer Fset offset since now = grind (arith, nat_tests)
ignored_answer Spik offset since now = grind (arith, nat_tests)
ignored_answer Freq offset since now = grind (arith, nat_tests)
ignored_answer Sync offset since now = grind (arith, nat_tests)

pub panic_iff : (old : LoopState) (offset : ℤ) (now : ℕ) → (change_of old offset now ≡ Panic) ↔ IsRefused old offset
panic_iff old offset now = refused_answer old.state offset old.since now

pub stepped_iff : (old : LoopState) (offset : ℤ) (now : ℕ) → (change_of old offset now ≡ Stepped) ↔ IsStep old offset now
stepped_iff old offset now = stepped_answer old.state offset old.since now

pub adjusted_iff : (old : LoopState) (offset : ℤ) (now : ℕ) → (change_of old offset now ≡ Adjusted) ↔ IsAdjustment old offset now
adjusted_iff old offset now = adjusted_answer old.state offset old.since now

pub ignored_iff : (old : LoopState) (offset : ℤ) (now : ℕ) → (change_of old offset now ≡ Ignored) ↔ IsIgnored old offset now
ignored_iff old offset now = ignored_answer old.state offset old.since now

-- adjusting: the clock goes on from the time that it has, and the offset is left to correct
adjusted_at : (panic : Bool) (effect : Effect) (row : Row) (old : LoopState) (offset : ℤ) (poll now : ℕ) → (if panic then Panic else answer_of effect) ≡ Adjusted → (if panic then old else moved effect row old offset poll now) ≡ moved on_time.Adjusted row old offset poll now
adjusted_at true effect row old offset poll now is = cc
adjusted_at false Kept row old offset poll now is = cc
adjusted_at false on_time.Adjusted row old offset poll now is = refl
adjusted_at false on_time.Stepped row old offset poll now is = cc

pub adjusted_moves : (old : LoopState) (offset : ℤ) (poll now : ℕ) → change_of old offset now ≡ Adjusted → updated old offset poll now ≡ moved on_time.Adjusted (row_for old offset now) old offset poll now
adjusted_moves old offset poll now is = adjusted_at (is_panic old.state offset) (row_for old offset now).time _ old offset poll now is

-- stepping: the clock is set by the offset, and nothing is left
stepped_at : (panic : Bool) (effect : Effect) (row : Row) (old : LoopState) (offset : ℤ) (poll now : ℕ) → (if panic then Panic else answer_of effect) ≡ Stepped → (if panic then old else moved effect row old offset poll now) ≡ moved on_time.Stepped row old offset poll now
stepped_at true effect row old offset poll now is = cc
stepped_at false Kept row old offset poll now is = cc
stepped_at false on_time.Adjusted row old offset poll now is = cc
stepped_at false on_time.Stepped row old offset poll now is = refl

pub stepped_moves : (old : LoopState) (offset : ℤ) (poll now : ℕ) → change_of old offset now ≡ Stepped → updated old offset poll now ≡ moved on_time.Stepped (row_for old offset now) old offset poll now
stepped_moves old offset poll now is = stepped_at (is_panic old.state offset) (row_for old offset now).time _ old offset poll now is

pub adjusted_on_time : (old : LoopState) (offset : ℤ) (poll now : ℕ) → change_of old offset now ≡ Adjusted → clock_time (updated old offset poll now).clock now ≡ clock_time old.clock now
adjusted_on_time old offset poll now is =
    ap (λ new. clock_time new.clock now) (adjusted_moves old offset poll now is)
    ∙ time_at_base now (clock_time old.clock now) _ (pos 0) (time_below old.clock now)

pub stepped_by : (old : LoopState) (offset : ℤ) (poll now : ℕ) → change_of old offset now ≡ Stepped → clock_time (updated old offset poll now).clock now ≡ shifted (clock_time old.clock now) offset
stepped_by old offset poll now is =
    ap (λ new. clock_time new.clock now) (stepped_moves old offset poll now is)
    ∙ time_at_base now (shifted (clock_time old.clock now) offset) _ (pos 0) (omega arith)
