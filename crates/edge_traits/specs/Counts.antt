-- How the counts of what stands in memory rise: our own words.
use Rattle.std.specs.Prelude.{◌≡◌, ℕ, ◌+◌, ◌-◌, ◌≤◌, ◌^◌, min}

-- one more, as long as 64 bits can count it
abbrev pub next_count : ℕ → ℕ
next_count n = min (n + 1) (2 ^ 64 - 1)

-- a count rises by one where this holds, stays otherwise, and so never falls
abbrev pub Counts : Type 0 → ℕ → ℕ → Type 0
Counts P old new = (P → new ≡ next_count old) × (¬ P → new ≡ old) × (old ≤ new)
