-- Restrict flags as bits of a number, after the access control of NTPsec: the numbers are our own rule.
use Rattle.std.specs.Prelude.{ℕ, ◌==◌, Bool, not, bit_and, bit_or, Option, None, Some}

-- one of the flags is set
abbrev pub has_flag : ℕ → ℕ → Bool
has_flag flags flag = not (bit_and flags flag == 0)

-- the flags of a rule, if there is one, together with these
abbrev pub joined : Option ℕ → ℕ → ℕ
joined None flags = flags
joined (Some old) flags = bit_or old flags
