-- How a residual offset is spent (RFC 5905, section 12; a sixteenth over 64 seconds, the roundings and the bound are our own rules).
use Rattle.std.specs.Prelude.{ℤ, pos, neg_ℤ, ◌-ℤ◌, ◌*ℤ◌, int_div}
use Rattle.std.specs.Int.{int_max, int_min}
use Rattle.discipline.specs.declared.slew.TheConstants.{MAX_SHARE}

-- a sixteenth of the residual, toward zero, is corrected by the next 64 seconds, as far as 500 ppm goes
abbrev pub share_to_correct : ℤ → ℤ
share_to_correct residual = int_max (neg_ℤ MAX_SHARE) (int_min (int_div residual (pos 16)) MAX_SHARE)

-- the slew is that by 64 seconds, toward zero
abbrev pub slew_of : ℤ → ℤ
slew_of residual = int_div (share_to_correct residual) (pos 64)

-- what is left is what the slew does not correct within 64 seconds
abbrev pub left_after : ℤ → ℤ
left_after residual = residual -ℤ (pos 64 *ℤ slew_of residual)
