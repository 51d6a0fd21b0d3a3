-- Values under names: none, one and several.
use Rattle.std.proofs.Common.{◌≡◌, ℕ, ◌<◌, ◌≤◌, ◌==◌, List, [], ◌∷◌, true, Option, Some, None, inl, inr, refl, arith}
use Rattle.std.proofs.lemmas.Bool.{cases_lt}
use Rattle.std.proofs.lemmas.Bool.Decides.{nat_tests}
use Rattle.std.specs.Prelude.{IsTrue}
use Rattle.mode6_frame.specs.declared.items.Item.{Item}
use Rattle.mru_items.specs.Names.{the_one}

-- an item for a place past the last
abbrev pub no_item : Item
no_item = record { name = []; value = None }

-- the value of one item
the_one-cons : (value : Option (List ℕ)) → the_one (value ∷ []) ≡ value
the_one-cons None = refl
the_one-cons (Some value) = refl

-- several have none
the_one-cons_cons : (first second : Option (List ℕ)) (rest : List (Option (List ℕ))) → the_one (first ∷ second ∷ rest) ≡ None
the_one-cons_cons None second rest = refl
the_one-cons_cons (Some first) second rest = refl

-- values that begin with one, and none behind it
pub the_one-one : (values dropped rest : List (Option (List ℕ))) (value : Option (List ℕ))
    → values ≡ dropped → dropped ≡ value ∷ rest → rest ≡ [] → the_one values ≡ value
the_one-one values dropped rest value skipped first none = rw (skipped, first, none) (the_one-cons value)

-- values that begin with one, and one more behind it
pub the_one-several : (values dropped rest others more : List (Option (List ℕ))) (value other : Option (List ℕ))
    → values ≡ dropped → dropped ≡ value ∷ rest → rest ≡ others → others ≡ other ∷ more → the_one values ≡ None
the_one-several values dropped rest others more value other skipped first skipped_more second =
    rw (skipped, first, skipped_more, second) (the_one-cons_cons value other more)

-- the test of equal numbers
pub eq-test : (a b : ℕ) → a ≡ b → (a == b) ≡ true
eq-test a b same = grind (arith, nat_tests)

-- where there are no values the first place is past the last item
pub missing-is : (at len : ℕ) (values dropped rest : List (Option (List ℕ))) (value : Option (List ℕ)) → at ≤ len
    → values ≡ dropped → (at < len → dropped ≡ value ∷ rest) → values ≡ [] → IsTrue (at == len)
missing-is at len values dropped rest value within skipped first none =
    elim (cases_lt at len) [
      | inl below ↦ absurd (cc (first below))
      | inr not_below ↦ let same : at ≡ len = omega arith in eq-test at len same
    ]
