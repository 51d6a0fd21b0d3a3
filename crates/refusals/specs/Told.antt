-- What is told of a refusal: a number in 32 bits, and an answer that a fault may stand for. Our own rule.
use Rattle.std.specs.Prelude.{◌≡◌, ℕ, ◌-◌, ◌^◌, min, Result, Err, ◌⊎◌}

-- a number or a place as it is told in 32 bits: what is longer is told as the greatest of them
abbrev pub told_number : ℕ → ℕ
told_number number = min number (2 ^ 32 - 1)

-- the answer is the one that is wanted, unless this fault came
abbrev pub IsUnless : {V F : Type 0} → F → Result V F → Result V F → Type 0
IsUnless fault result wanted = (result ≡ wanted) ⊎ (result ≡ Err fault)
