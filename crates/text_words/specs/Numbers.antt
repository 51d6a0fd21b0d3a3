-- Numbers as words spell them: our own rule.
use Rattle.std.specs.Prelude.{◌≡◌, ℕ, ◌≤◌, List, decimal}

-- The word is a number from least to most in decimal, without leading zeros, since `decimal` writes each number in one way.
abbrev pub SpellsNumber : ℕ → ℕ → List ℕ → ℕ → Type 0
SpellsNumber least most word number = (word ≡ decimal number) × (least ≤ number) × (number ≤ most)
