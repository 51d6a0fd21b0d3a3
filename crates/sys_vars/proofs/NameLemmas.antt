-- Each variable has one number.
use Rattle.std.proofs.Common.{◌≡◌, ◌≢◌, ◌<◌, ◌≤◌, ◌+◌, ◌⊎◌, inl, inr, ℕ, zero, suc, Bool, true, false, List, [], ◌∷◌, length, get_or, Some, None, Bor, refl, sym, ap, ◌∙◌, arith}
use Rattle.std.specs.Prelude.{slice_get, bytes_eq, not, ◌&&◌, ◌||◌, ◌==◌, if◌then◌else◌, option_map}
use Rattle.std.specs.List.{list_any}
use Rattle.std.proofs.lemmas.Bool.{cases_lt}
use Rattle.std.proofs.lemmas.Slice.Eq.{bytes_eq-Decides}
use Rattle.std.proofs.lemmas.Option.{slice_get-map, slice_get-get_or, slice_get_past}
use Rattle.sys_vars.specs.Names.{names_of, name_of, system_names, peer_names, texts_of}

-- no two of the names are equal
abbrev are_apart : List (List ℕ) → Bool
are_apart [] = true
are_apart (name ∷ names) = not (list_any (bytes_eq name) names) && are_apart names

-- a name that is none of these stands nowhere among them
not_among : (name : List ℕ) (names : List (List ℕ)) → list_any (bytes_eq name) names ≡ false
    → (place : ℕ) → slice_get names place ≢ Some name
not_among name [] none place = λ is. cc
not_among name (other ∷ names) none zero = λ is.
    let same : name ≡ other = cc in
    let test : bytes_eq name other ≡ true = (bytes_eq-Decides name other).1 same in
    neither (bytes_eq name other) (list_any (bytes_eq name) names) test none
  where
    neither : (a b : Bool) → a ≡ true → (a || b) ≡ false → ⊥
    neither true b passes none_does = cc
    neither false b passes none_does = cc
not_among name (other ∷ names) none (suc place) = not_among name names (second (bytes_eq name other) _ none) place
  where
    second : (a b : Bool) → (a || b) ≡ false → b ≡ false
    second true b none_does = cc
    second false b none_does = none_does

-- both parts of a test
both : (a b : Bool) → (not a && b) ≡ true → (a ≡ false) × (b ≡ true)
both true b is = cc
both false b is = (refl, is)

-- where no two names are equal, each stands at one place
one_place : (names : List (List ℕ)) (name : List ℕ) (i j : ℕ) → are_apart names ≡ true
    → slice_get names i ≡ Some name → slice_get names j ≡ Some name → i ≡ j
one_place [] name i j apart first second = absurd cc
one_place (x ∷ xs) name zero zero apart first second = refl
one_place (x ∷ xs) name zero (suc j) apart first second =
    let same : x ≡ name = cc in
    absurd (not_among x xs (both _ _ apart).0 j (second ∙ ap Some (sym same)))
one_place (x ∷ xs) name (suc i) zero apart first second =
    let same : x ≡ name = cc in
    absurd (not_among x xs (both _ _ apart).0 i (first ∙ ap Some (sym same)))
one_place (x ∷ xs) name (suc i) (suc j) apart first second = ap suc (one_place xs name i j (both _ _ apart).1 first second)

-- no two variables of one association have one name
names_apart : (assoc : ℕ) → are_apart (names_of assoc) ≡ true
unfolding system_names peer_names
names_apart assoc = elim (assoc == 0) as (λ b. are_apart (if b then system_names else peer_names) ≡ true) [
  | true ↦ refl
  | false ↦ refl
]

-- so a variable has one number
pub one_number : (assoc : ℕ) (name : List ℕ) (i j : ℕ) → name_of assoc i ≡ Some name → name_of assoc j ≡ Some name → i ≡ j
one_number assoc name i j = one_place (names_of assoc) name i j (names_apart assoc)

-- the text at a place within
pub text_at : (texts : List (Bor (List ℕ))) (place : ℕ) (d : Bor (List ℕ)) → place < length texts
    → slice_get (texts_of texts) place ≡ Some (get_or texts place d).now
text_at texts place d within =
    slice_get-map (λ (text : Bor (List ℕ)). text.now) texts place
    ∙ ap (option_map (λ (text : Bor (List ℕ)). text.now)) (slice_get-get_or texts place d within)

-- and none stands past the end
pub no_text_past : (texts : List (Bor (List ℕ))) (place : ℕ) → length texts ≤ place → slice_get (texts_of texts) place ≡ None
no_text_past texts place past =
    slice_get-map (λ (text : Bor (List ℕ)). text.now) texts place
    ∙ ap (option_map (λ (text : Bor (List ℕ)). text.now)) (slice_get_past texts place past)

-- a name that was not found before a place, and is not that of the place, is not found up to it
pub not_found-more : (texts : List (Bor (List ℕ))) (name at : List ℕ) (place : ℕ) → ((other : ℕ) → other < place → slice_get (texts_of texts) other ≢ Some name)
    → slice_get (texts_of texts) place ≡ Some at → bytes_eq at name ≡ false
    → (other : ℕ) → other < place + 1 → slice_get (texts_of texts) other ≢ Some name
not_found-more texts name at place before is differ other within = by_order (cases_lt other place)
  where
    by_order : (other < place) ⊎ (place ≤ other) → slice_get (texts_of texts) other ≢ Some name
    by_order (inl earlier) = before other earlier
    by_order (inr not_earlier) = λ found.
        let here : other ≡ place = omega arith in
        let same : at ≡ name = cc in
        let test : bytes_eq at name ≡ true = (bytes_eq-Decides at name).1 same in
        cc

-- a name that was not found up to the end is not found
pub not_found : (texts : List (Bor (List ℕ))) (name : List ℕ) (end : ℕ) → ((other : ℕ) → other < end → slice_get (texts_of texts) other ≢ Some name)
    → length texts ≤ end → (place : ℕ) → slice_get (texts_of texts) place ≢ Some name
not_found texts name end before whole place = by_order (cases_lt place end)
  where
    by_order : (place < end) ⊎ (end ≤ place) → slice_get (texts_of texts) place ≢ Some name
    by_order (inl within) = before place within
    by_order (inr past) = λ found. let none = no_text_past texts place (omega arith) in cc
