-- How far two offsets are apart (a term of the jitters of RFC 5905, sections 10 and 11.2; the cap is our own rule).
use Rattle.std.specs.Prelude.{ℕ, ℤ, ◌*◌, ◌-ℤ◌, min, unsigned_abs}
use Rattle.fixed_time.specs.declared.apart.TheConstants.{CAP}

-- the distance of two offsets, at most the cap
abbrev pub apart_of : ℤ → ℤ → ℕ
apart_of x y = min (unsigned_abs (x -ℤ y)) CAP

-- the square of how far two offsets are apart, their distance being at most the cap
abbrev pub squared_apart_of : ℤ → ℤ → ℕ
squared_apart_of x y = apart_of x y * apart_of x y
