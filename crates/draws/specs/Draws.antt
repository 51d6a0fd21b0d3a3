-- Numbers that are drawn one after another: a linear congruence of 64 bits. Our own rule.
use Rattle.std.specs.Prelude.{ℕ, ◌+◌, ◌*◌, ◌/◌, ◌%◌, ◌^◌}
use Rattle.draws.specs.declared.draws.TheConstants.{FACTOR, INCREMENT}

-- the state after a draw
abbrev pub next_state : ℕ → ℕ
next_state x = (x * FACTOR + INCREMENT) % 2 ^ 64

-- the draw of a state: the high 31 bits of the next one
abbrev pub drawn : ℕ → ℕ
drawn x = next_state x / 2 ^ 33
