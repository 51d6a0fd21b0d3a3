-- Square roots of whole numbers, rounded down (our own rule; jitters of RFC 5905, sections 10 and 11.2, are such roots).
use Rattle.std.specs.Prelude.{ℕ, zero, suc, ◌+◌, ◌*◌, ◌<◌, ◌≤◌, if◌then◌else◌, nat_le}

-- r is the greatest number whose square is at most n
pub record IsRoot (n r : ℕ) : Type 0 where
  pub square_within : r * r ≤ n
  pub greatest : n < (r + 1) * (r + 1)

-- the greatest number up to k whose square is at most n
unfoldable pub root_within : ℕ → ℕ → ℕ
root_within n zero = zero
root_within n (suc k) = if nat_le (suc k * suc k) n then suc k else root_within n k

-- the greatest number whose square is at most n
unfoldable pub root : ℕ → ℕ
root n = root_within n n
