-- What an object of the outside tells of what it did, and how its counts rise: our own words.
use Rattle.std.specs.Prelude.{ℕ, ◌≡◌, ◌+◌, ◌-◌, ◌≤◌, ◌^◌, min, Option, Some, None, List, ◌++◌, length, take}

-- what is told after these were gained; an object that tells nothing goes on to tell nothing
abbrev pub gained : {A : Type 0} → Option (List A) → List A → Option (List A)
gained None more = None
gained (Some told) more = Some (told ++ more)

-- told are just these, where anything is told
abbrev pub TellsJust : {A : Type 0} → Option (List A) → List A → Type 0
TellsJust None these = Unit {0}
TellsJust (Some told) these = told ≡ these

-- what was told and these are told now, or nothing is told any longer
abbrev pub Grows : {A : Type 0} → Option (List A) → Option (List A) → List A → Type 0
Grows old None more = Unit {0}
Grows None (Some now) more = ⊥
Grows (Some told) (Some now) more = now ≡ told ++ more

-- a count rose by `n` at least; one that stands at its last value counts as one that rose
abbrev pub Rose : ℕ → ℕ → ℕ → Type 0
Rose n old new = min (old + n) (2 ^ 64 - 1) ≤ new

-- a front of these was gained
abbrev pub GainedFront : {A : Type 0} → Option (List A) → Option (List A) → List A → Type 0
GainedFront old new these = (n : ℕ) × (n ≤ length these) × (new ≡ gained old (take n these))
