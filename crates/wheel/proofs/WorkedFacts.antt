-- Worked due times.
use Rattle.std.proofs.Common.{◌≡◌, ◌≤◌, ◌⊎◌, ℕ, zero, suc, List, [], ◌∷◌, Option, None, Some, refl, inl, inr, arith}
use Rattle.wheel.specs.DueTimes.{IsFirstDue, IsNoneDue, due_at}

-- key 0 is due at 30, key 1 at no time, keys 2 and 3 at 20
abbrev wheel : List (Option ℕ)
wheel = Some 30 ∷ None ∷ Some 20 ∷ Some 20 ∷ []

-- a key that has a due time has one of these
one_of : (key time : ℕ) → due_at wheel key ≡ Some time → ((key ≡ 0) × (time ≡ 30)) ⊎ ((2 ≤ key) × (time ≡ 20))
one_of zero time is = inl (refl, cc)
one_of (suc zero) time is = absurd cc
one_of (suc (suc zero)) time is = inr (omega arith, cc)
one_of (suc (suc (suc zero))) time is = inr (omega arith, cc)
one_of (suc (suc (suc (suc n)))) time is = absurd cc

-- at 20, key 2 is the first
at_20 : IsFirstDue wheel 20 2
at_20 = record {
  at = 20;
  is_set = refl;
  by_now = omega arith;
  first = λ other time is. let which = one_of other time is in grind arith;
}

-- at 19, none is due
at_19 : IsNoneDue wheel 19
at_19 = λ key time is. let which = one_of key time is in grind arith
