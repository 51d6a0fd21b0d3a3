-- One more key of a pass, and what a whole pass found.
use Rattle.std.proofs.Common.{◌≡◌, ℕ, ◌+◌, ◌<◌, ◌⊎◌, inl, inr, Bool, true, false, List, Option, None, Some, length, refl, arith}
use Rattle.std.specs.Prelude.{if◌then◌else◌, nat_lt, nat_le}
use Rattle.std.proofs.lemmas.Bool.{cases_lt}
use Rattle.std.proofs.lemmas.Bool.Decides.{nat_tests}
use Rattle.std.proofs.lemmas.List.{get_or_past}
use Rattle.wheel.specs.DueTimes.{IsFirstDue, IsNoneDue, due_at}
use Rattle.wheel.specs.Passing.{IsFirstOf, IsFirstBelow, earlier_of}
use Rattle.wheel.specs.declared.due_times.Due.{Due}

-- a key below the next number is below, or is the last
last_or_below : (other key : ℕ) → other < key + 1 → (other < key) ⊎ (other ≡ key)
last_or_below other key below = grind arith

-- a key has one due time
same_time : (due : List (Option ℕ)) (key other at time : ℕ) → due_at due key ≡ Some at → other ≡ key → due_at due other ≡ Some time → at ≡ time
same_time due key other at time is same other_is = cc

no_time : (due : List (Option ℕ)) (key other time : ℕ) → due_at due key ≡ None → other ≡ key → due_at due other ≡ Some time → ⊥
no_time due key other time is same other_is = cc

-- a key without a due time changes nothing
without_time : (due : List (Option ℕ)) (now key : ℕ) (first : Option Due) → due_at due key ≡ None → IsFirstOf due now key first → IsFirstOf due now (key + 1) first
without_time due now key None is so_far = λ other time below other_is.
    elim (last_or_below other key below) [ inl lower ↦ so_far other time lower other_is | inr same ↦ absurd (no_time due key other time is same other_is) ]
without_time due now key (Some found) is so_far = record {
  is_below = omega (arith, so_far.is_below);
  is_set = so_far.is_set;
  by_now = so_far.by_now;
  first = λ other time below other_is.
      elim (last_or_below other key below) [ inl lower ↦ so_far.first other time lower other_is | inr same ↦ absurd (no_time due key other time is same other_is) ];
}

-- a key that is due where none was before
none_before : (due : List (Option ℕ)) (now key at : ℕ) (test : Bool) → nat_le at now ≡ test → due_at due key ≡ Some at → IsFirstOf due now key None → IsFirstOf due now (key + 1) (if test then Some (record { key = key; at = at }) else None)
none_before due now key at true tested is so_far = record {
  is_below = omega arith;
  is_set = is;
  by_now = grind (arith, nat_tests);
  first = λ other time below other_is.
      elim (last_or_below other key below) [
        | inl lower ↦ let later = so_far other time lower other_is in grind (arith, nat_tests)
        | inr same ↦ let one = same_time due key other at time is same other_is in inr (one, omega arith)
      ];
}
none_before due now key at false tested is so_far = λ other time below other_is.
    elim (last_or_below other key below) [
      | inl lower ↦ so_far other time lower other_is
      | inr same ↦ let one = same_time due key other at time is same other_is in grind (arith, nat_tests)
    ]

-- a key that may be due before another
one_before : (due : List (Option ℕ)) (now key at : ℕ) (found : Due) (test : Bool) → nat_lt at found.at ≡ test → due_at due key ≡ Some at → IsFirstBelow due now key found → IsFirstOf due now (key + 1) (if test then Some (record { key = key; at = at }) else Some found)
one_before due now key at found true tested is so_far = record {
  is_below = omega arith;
  is_set = is;
  by_now = let by_now = so_far.by_now in grind (arith, nat_tests);
  first = λ other time below other_is.
      elim (last_or_below other key below) [
        | inl lower ↦ let later = so_far.first other time lower other_is in grind (arith, nat_tests)
        | inr same ↦ let one = same_time due key other at time is same other_is in inr (one, omega arith)
      ];
}
one_before due now key at found false tested is so_far = record {
  is_below = omega (arith, so_far.is_below);
  is_set = so_far.is_set;
  by_now = so_far.by_now;
  first = λ other time below other_is.
      elim (last_or_below other key below) [
        | inl lower ↦ so_far.first other time lower other_is
        | inr same ↦ let one = same_time due key other at time is same other_is in let before = so_far.is_below in grind (arith, nat_tests)
      ];
}

-- one more key
pub first_more : (due : List (Option ℕ)) (now key : ℕ) (first : Option Due) (at : Option ℕ) → due_at due key ≡ at → IsFirstOf due now key first → IsFirstOf due now (key + 1) (earlier_of first key at now)
first_more due now key first None is so_far = without_time due now key first is so_far
first_more due now key None (Some at) is so_far = none_before due now key at (nat_le at now) refl is so_far
first_more due now key (Some found) (Some at) is so_far = one_before due now key at found (nat_lt at found.at) refl is so_far

-- a key that has a due time has room
has_room : (due : List (Option ℕ)) (key time : ℕ) → due_at due key ≡ Some time → key < length due
has_room due key time is = elim (cases_lt key (length due)) [
  | inl below ↦ below
  | inr past ↦ let none = get_or_past due key None past in absurd cc
]

-- the first that is due of all keys below the room is the first that is due
pub found_first : (due : List (Option ℕ)) (now : ℕ) (found : Due) → IsFirstBelow due now (length due) found → IsFirstDue due now found.key
found_first due now found is = record {
  at = found.at;
  is_set = is.is_set;
  by_now = is.by_now;
  first = λ other time other_is. is.first other time (has_room due other time other_is) other_is;
}

-- none below the room is none
pub none_found : (due : List (Option ℕ)) (now : ℕ) → IsFirstOf due now (length due) None → IsNoneDue due now
none_found due now is = λ key time key_is. is key time (has_room due key time key_is) key_is

-- where one is found, some are due
pub some_found : (due : List (Option ℕ)) (now : ℕ) (found : Due) → IsFirstBelow due now (length due) found → IsNoneDue due now → ⊥
some_found due now found is none =
    let later = none found.key found.at is.is_set in
    let by_now = is.by_now in
    omega arith
