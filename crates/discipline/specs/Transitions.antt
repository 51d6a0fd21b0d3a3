-- The state transition function of the clock discipline (RFC 5905, section 11.3, figure 28; that FREQ steps the time for a large offset is that of appendix A.5.5.6).
use Rattle.std.specs.Prelude.{ℕ, ℤ, ◌-◌, Bool, true, false, nat_lt, unsigned_abs}
use Rattle.discipline.specs.declared.state.State.{State}
use Rattle.discipline.specs.declared.state.State.TheVariants.{Nset, Fset, Spik, Freq, Sync}
use Rattle.discipline.specs.declared.transitions.Effect.{Effect}
use Rattle.discipline.specs.declared.transitions.Effect.TheVariants.{Kept, Adjusted, Stepped}
use Rattle.discipline.specs.declared.transitions.Row.{Row}
use Rattle.discipline.specs.declared.transitions.TheConstants.{STEP_THRESHOLD, STEPOUT, PANIC_THRESHOLD}

-- an offset is over the step threshold, either way
abbrev pub is_large : ℤ → Bool
is_large offset = nat_lt STEP_THRESHOLD (unsigned_abs offset)

-- an update comes before the stepout threshold
abbrev pub is_early : ℕ → ℕ → Bool
is_early since now = nat_lt (now - since) STEPOUT

-- a line of the table: the next state, then what becomes of the frequency and of the time
abbrev pub goes_to : State → Effect → Effect → Row
goes_to next freq time = record { next = next; freq = freq; time = time }

-- the table, by state, then whether the offset is large, then whether the update is early
abbrev pub row_of : State → Bool → Bool → Row
row_of Nset false early = goes_to Freq Kept Adjusted
row_of Nset true early = goes_to Freq Kept Stepped
row_of Fset false early = goes_to Sync Kept Adjusted
row_of Fset true early = goes_to Sync Kept Stepped
row_of Spik false early = goes_to Sync Adjusted Adjusted
row_of Spik true true = goes_to Spik Kept Kept
row_of Spik true false = goes_to Sync Stepped Stepped
row_of Freq large true = goes_to Freq Kept Kept
row_of Freq false false = goes_to Sync Stepped Adjusted
row_of Freq true false = goes_to Sync Stepped Stepped
row_of Sync false early = goes_to Sync Adjusted Adjusted
row_of Sync true true = goes_to Spik Kept Kept
row_of Sync true false = goes_to Sync Stepped Stepped

-- the panic rule: an offset over the panic threshold is refused in every state but NSET, which knows no time yet (our own rule)
abbrev pub is_panic : State → ℤ → Bool
is_panic Nset offset = false
is_panic state offset = nat_lt PANIC_THRESHOLD (unsigned_abs offset)
