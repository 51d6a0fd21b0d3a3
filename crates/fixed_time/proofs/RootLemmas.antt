-- The square root is one number.
use Rattle.std.proofs.Common.{◌≡◌, ℕ, zero, suc, ◌+◌, ◌*◌, ◌<◌, ◌≤◌, ◌⊎◌, Bool, true, false, cond, leb, inl, inr, arith}
use Rattle.std.proofs.lemmas.Bool.Decides.{leb_tells}
use Rattle.std.proofs.lemmas.Bool.{cases_lt}
use Rattle.std.proofs.lemmas.Nat.{mul-le}
use Rattle.std.proofs.Math.Nat.{mul-suc}
use Rattle.fixed_time.specs.Root.{IsRoot, root, root_within}

-- one step of the search: the number itself, or what is found below it
IsRoot-step : (n k r : ℕ) (b : Bool) → ((b ≡ true) × (suc k * suc k ≤ n)) ⊎ ((b ≡ false) × (n < suc k * suc k)) → n < (suc k + 1) * (suc k + 1) → (n < (k + 1) * (k + 1) → IsRoot n r) → IsRoot n (cond b (suc k) r)
IsRoot-step n k r true tells above below = record { square_within = grind arith; greatest = above }
IsRoot-step n k r false tells above below = below (grind arith)

-- up to k the greatest such number is found, where the square of k + 1 is too much
IsRoot-within : (n k : ℕ) → n < (k + 1) * (k + 1) → IsRoot n (root_within n k)
unfolding root_within
IsRoot-within n zero above = record { square_within = omega arith; greatest = above }
IsRoot-within n (suc k) above = IsRoot-step n k (root_within n k) (leb (suc k * suc k) n) (leb_tells (suc k * suc k) n) above (IsRoot-within n k)

-- the root is a root
pub IsRoot-root : (n : ℕ) → IsRoot n (root n)
unfolding root
IsRoot-root n = IsRoot-within n n (omega (arith, mul-suc (n + 1) n))

-- two roots of one number are equal
roots_le : (n r s : ℕ) → IsRoot n r → IsRoot n s → s < r + 1
roots_le n r s is other =
    elim (cases_lt s (r + 1)) [
      | inl below ↦ below
      | inr above ↦ absurd (omega (arith, mul-le (r + 1) (r + 1) s s above above, is.greatest, other.square_within))
    ]

-- and there is no other
pub root_is : (n r : ℕ) → IsRoot n r → r ≡ root n
root_is n r is =
    let low = roots_le n r (root n) is (IsRoot-root n) in
    let high = roots_le n (root n) r (IsRoot-root n) is in
    omega arith
