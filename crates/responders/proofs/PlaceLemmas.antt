-- Places of a history, and how often they stand among places.
use Rattle.std.proofs.Common.{◌≡◌, ◌≢◌, ◌∙◌, ◌==◌, ◌+◌, ◌-◌, ◌<◌, ◌≤◌, ℕ, suc, Bool, true, false, cond, None, Some, List, [], ◌∷◌, ◌++◌, length, map, refl, ap, subst, arith}
use Rattle.std.specs.Prelude.{slice_get, nat_lt}
use Rattle.std.specs.List.{AllByRecursion, filter}
use Rattle.std.proofs.lemmas.Bool.Decides.{nat_tests}
use Rattle.std.proofs.lemmas.List.Sums.{sum_by-append}
use Rattle.turnstile.specs.Histories.{times}

-- what stands after so many stands at this place
pub slice_get-seam : {A : Type 0} (before : List A) (x : A) (after : List A) → slice_get (before ++ x ∷ after) (length before) ≡ Some x
slice_get-seam [] x after = refl
slice_get-seam (y ∷ before) x after = slice_get-seam before x after

-- at each of these places of a history stands an element of this kind
abbrev pub AreOf : {A : Type 0} → (A → Bool) → List A → List ℕ → Type 0
AreOf {A} kind history places = AllByRecursion (λ place. (x : A) × (slice_get history place ≡ Some x) × (kind x ≡ true)) places

pub AreOf-append : {A : Type 0} (kind : A → Bool) (history : List A) (xs ys : List ℕ) → AreOf kind history xs → AreOf kind history ys → AreOf kind history (xs ++ ys)
AreOf-append kind history [] ys first second = second
AreOf-append kind history (x ∷ xs) ys first second = (first.0, AreOf-append kind history xs ys first.1 second)

-- two places at which different kinds stand are not one
apart : {A : Type 0} (kind : A → Bool) (history : List A) (one two : ℕ) (x y : A) → slice_get history one ≡ Some x → kind x ≡ true → slice_get history two ≡ Some y → kind y ≡ false → one ≢ two
apart kind history one two x y here is there other same =
    let alike : x ≡ y = cc (here, there, same) in cc (alike, is, other)

-- one place more
pub more_times : (place other : ℕ) (places : List ℕ) → other ≢ place → times place (other ∷ places) ≡ times place places
more_times place other places apart = grind (arith, nat_tests)

-- a place where an element of another kind stands is not among them
pub times_of_others : {A : Type 0} (kind : A → Bool) (history : List A) (place : ℕ) (x : A) (places : List ℕ) → slice_get history place ≡ Some x → kind x ≡ false → AreOf kind history places → times place places ≡ 0
times_of_others kind history place x [] here other are = refl
times_of_others kind history place x (first ∷ rest) here other ((y, there, is), later) =
    more_times place first rest (apart kind history first place y x there is here other) ∙ times_of_others kind history place x rest here other later

pub times-append : (place : ℕ) (xs ys : List ℕ) → times place (xs ++ ys) ≡ times place xs + times place ys
times-append place xs ys = sum_by-append (λ n. cond (n == place) 1 0) xs ys

-- places that climb, each at the least one or later
abbrev pub Rises : ℕ → List ℕ → Type 0
Rises least [] = Unit {0}
Rises least (place ∷ places) = (least ≤ place) × Rises (place + 1) places

-- a place before the first is none of them
times_before : (place least : ℕ) (places : List ℕ) → place < least → Rises least places → times place places ≡ 0
times_before place least [] before rises = refl
times_before place least (first ∷ rest) before (here, later) =
    more_times place first rest (omega (arith, before, here)) ∙ times_before place (first + 1) rest (omega (arith, before, here)) later

-- where what stands from a place on is this list, a list of places that climb names all of one kind, and each other place that
-- they name is of another kind, what they name of the kind is what there is of it
module _ {A B : Type 0} (kind : A → Bool) (place_of : B → ℕ) (item_of : B → A) (history : List A) where
  abbrev pub StandAt : List B → Type 0
  StandAt xs = AllByRecursion (λ x. slice_get history (place_of x) ≡ Some (item_of x)) xs

  abbrev NamesAll : ℕ → List B → Type 0
  NamesAll least xs = (place : ℕ) (a : A) → least ≤ place → slice_get history place ≡ Some a → kind a ≡ true → 1 ≤ times place (map place_of xs)

  skipped : (least : ℕ) (xs : List B) (a : A) → slice_get history least ≡ Some a → Rises (least + 1) (map place_of xs) → NamesAll least xs → kind a ≡ false
  skipped least xs a here rises names = by_kind (kind a) refl where
    by_kind : (b : Bool) → kind a ≡ b → b ≡ false
    by_kind false is = refl
    by_kind true is = absurd (omega (arith, names least a (omega arith) here is, times_before least (least + 1) (map place_of xs) (omega arith) rises))

  fewer : (least : ℕ) (xs : List B) → NamesAll least xs → NamesAll (least + 1) xs
  fewer least xs names place a later there is = names place a (omega (arith, later)) there is

  without : (least : ℕ) (x : B) (xs : List B) → place_of x ≡ least → NamesAll least (x ∷ xs) → NamesAll (least + 1) xs
  without least x xs here names place a later there is =
      let named = names place a (omega (arith, later)) there is in
      let other = more_times place (place_of x) (map place_of xs) (λ same. omega (arith, same, here, later)) in
      omega (arith, named, other)

  first_of : (least : ℕ) (a : A) (rest : List A) → ((k : ℕ) → slice_get history (least + k) ≡ slice_get (a ∷ rest) k) → slice_get history least ≡ Some a
  first_of least a rest from = subst (λ (n : ℕ). slice_get history n ≡ Some a) (let e : least + 0 ≡ least = omega arith in e) (from 0)

  shifted : (least : ℕ) (a : A) (rest : List A) → ((k : ℕ) → slice_get history (least + k) ≡ slice_get (a ∷ rest) k) → (k : ℕ) → slice_get history ((least + 1) + k) ≡ slice_get rest k
  shifted least a rest from k = subst (λ (n : ℕ). slice_get history n ≡ slice_get rest k) (let e : least + suc k ≡ (least + 1) + k = omega arith in e) (from (suc k))

  nowhere : (least : ℕ) (x : B) → ((k : ℕ) → slice_get history (least + k) ≡ None) → least ≤ place_of x → slice_get history (place_of x) ≡ Some (item_of x) → ⊥
  nowhere least x from later here =
      let e : least + (place_of x - least) ≡ place_of x = omega (arith, later) in
      let none = subst (λ (n : ℕ). slice_get history n ≡ None) e (from (place_of x - least)) in
      cc (none, here)

  pub kept_of : (least : ℕ) (rest : List A) (xs : List B) → ((k : ℕ) → slice_get history (least + k) ≡ slice_get rest k) → Rises least (map place_of xs) → StandAt xs → NamesAll least xs → filter kind rest ≡ filter kind (map item_of xs)
  kept_of least [] [] from rises stand names = refl
  kept_of least [] (x ∷ xs) from rises stand names = absurd (nowhere least x from rises.0 stand.0)
  kept_of least (a ∷ rest) [] from rises stand names =
      ap (λ (test : Bool). cond test (a ∷ filter kind rest) (filter kind rest)) (skipped least [] a (first_of least a rest from) tt names)
      ∙ kept_of (least + 1) rest [] (shifted least a rest from) tt stand (fewer least [] names)
  kept_of least (a ∷ rest) (x ∷ xs) from rises stand names =
      by_place (λ others. kept_of (least + 1) rest others (shifted least a rest from)) (nat_lt least (place_of x)) refl
    where
      by_place : ((others : List B) → Rises (least + 1) (map place_of others) → StandAt others → NamesAll (least + 1) others → filter kind rest ≡ filter kind (map item_of others))
          → (later : Bool) → nat_lt least (place_of x) ≡ later → filter kind (a ∷ rest) ≡ filter kind (map item_of (x ∷ xs))
      by_place again true is =
          let later : least + 1 ≤ place_of x = grind (arith, nat_tests) in
          ap (λ (test : Bool). cond test (a ∷ filter kind rest) (filter kind rest)) (skipped least (x ∷ xs) a (first_of least a rest from) (later, rises.1) names)
          ∙ again (x ∷ xs) (later, rises.1) stand (fewer least (x ∷ xs) names)
      by_place again false is =
          let here : place_of x ≡ least = let least_first = rises.0 in grind (arith, nat_tests) in
          let same : a ≡ item_of x = let there = stand.0 in let first = first_of least a rest from in cc in
          ap (λ (item : A). cond (kind item) (item ∷ filter kind rest) (filter kind rest)) same
          ∙ ap (λ (items : List A). cond (kind (item_of x)) (item_of x ∷ items) items)
          (again xs (subst (λ (n : ℕ). Rises (n + 1) (map place_of xs)) here rises.1) stand.1 (without least x xs here names))
