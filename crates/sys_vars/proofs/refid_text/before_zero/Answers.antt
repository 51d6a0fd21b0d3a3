use Rattle.std.proofs.Common.{◌≡◌, ℕ, Bool, true, false, cond, ltb, List, length, take, Some, None, refl, sym, ap, arith, take_all}
use Rattle.std.proofs.lemmas.Bool.Decides.{nat_tests}
use Rattle.std.specs.List.{position, position_or_len, before_first}
use Rattle.sys_vars.proofs.refid_text.before_zero.Goals as goal

-- what is found is the length of what stands before it
found-cond : (b : Bool) (found place : ℕ) → cond b (Some found) None ≡ Some place → found ≡ place
found-cond true found place is = cc
found-cond false found place is = cc

-- where nothing is found, the test failed
none-cond : (b : Bool) (found : ℕ) → cond b (Some found) None ≡ None → b ≡ false
none-cond true found is = cc
none-cond false found is = refl

-- what stands before the first that passes
before_first-Some : (p : ℕ → Bool) (xs : List ℕ) (place : ℕ) → position p xs ≡ Some place → take place xs ≡ before_first p xs
before_first-Some p xs place is = ap (λ n. take n xs) (sym (found-cond _ _ place is))

-- all, where none passes
before_first-None : (p : ℕ → Bool) (xs : List ℕ) → position p xs ≡ None → xs ≡ before_first p xs
before_first-None p xs is =
    let failed : ltb (position_or_len p xs) (length xs) ≡ false = none-cond _ _ is in
    sym (take_all (position_or_len p xs) xs (grind (arith, nat_tests)))

pub returns-in-Some-clause-value : goal.returns-in-Some-clause-value
returns-in-Some-clause-value c = before_first-Some _ _ c.in-Some.len (sym c.in-Some.ensures)

pub returns-in-None-clause-value : goal.returns-in-None-clause-value
returns-in-None-clause-value c = before_first-None _ _ (sym c.in-None.ensures)
