-- Lines of key files: what means a key, and what is refused.
use Rattle.std.proofs.Common.{◌≡◌, ℕ, List, [], ◌∷◌, Option, Some, None, refl, sym, subst, arith}
use Rattle.refusals.specs.Refusals.{IsRefusedAt}
use Rattle.mac_keys.specs.declared.keys.Key.{Key}
use Rattle.mac_keys.specs.declared.keys.Algorithm.{Algorithm}
use Rattle.mac_keys.specs.declared.key_types.KeyType.{KeyType}
use Rattle.mac_keys.specs.declared.key_types.KeyType.TheVariants.{Hashed, Skipped}
use Rattle.mac_keys.specs.KeyLines.{IsKeyLine, IsId, IsKeyOf, type_of, secret_of}

some_is_not_none : {X : Type 0} (o : Option X) (x : X) → o ≡ None → o ≡ Some x → ⊥
some_is_not_none o x none some = cc

-- some secret goes with each id and type
pub some_line : (id : ℕ) (key_type : KeyType) → (meaning : Option Key) × IsKeyOf id key_type (115 ∷ []) meaning
some_line id (Hashed algorithm) = (Some (record { id = id; algorithm = algorithm; secret = 115 ∷ [] }), (115 ∷ [], refl, refl))
some_line id Skipped = (None, refl)

-- a line without an id means nothing
no_id : (id : List ℕ) (words : List (List ℕ)) (meaning : Option Key) → ((n : ℕ) → ¬ IsId id n) → IsKeyLine (id ∷ words) meaning → ⊥
no_id id [] meaning none is = is
no_id id (type ∷ []) meaning none is = is
no_id id (type ∷ secret ∷ []) meaning none is = none is.0 is.2
no_id id (type ∷ secret ∷ more ∷ words) meaning none is = is

-- a line without a type means nothing
no_type : (id type : List ℕ) (words : List (List ℕ)) (meaning : Option Key) → type_of type ≡ None → IsKeyLine (id ∷ type ∷ words) meaning → ⊥
no_type id type [] meaning none is = is
no_type id type (secret ∷ []) meaning none is = some_is_not_none (type_of type) is.1 none is.3
no_type id type (secret ∷ more ∷ words) meaning none is = is

-- a line of a hash function without a secret means nothing
no_secret : (id type secret : List ℕ) (words : List (List ℕ)) (algorithm : Algorithm) (meaning : Option Key) → type_of type ≡ Some (Hashed algorithm) → secret_of secret ≡ None
    → IsKeyLine (id ∷ type ∷ secret ∷ words) meaning → ⊥
no_secret id type secret [] algorithm meaning hashed none is =
    let found : type_of type ≡ Some is.1 = is.3 in
    let same : is.1 ≡ Hashed algorithm = cc in
    let of : IsKeyOf is.0 (Hashed algorithm) secret meaning = subst (λ key_type. IsKeyOf is.0 key_type secret meaning) same is.4 in
    some_is_not_none (secret_of secret) of.0 none of.1
no_secret id type secret (more ∷ words) algorithm meaning hashed none is = is

-- the first word is refused that is no id
pub refused_id : (line words : List (List ℕ)) (id : List ℕ) → line ≡ id ∷ words → ((n : ℕ) → ¬ IsId id n) → IsRefusedAt IsKeyLine line 0
refused_id line words id is none =
    let P : List (List ℕ) → Type 0 = λ l. IsRefusedAt IsKeyLine l 0 in
    let here : IsRefusedAt IsKeyLine (id ∷ words) 0 = record {
      within = omega arith;
      goes_on = ([], None, refl);
      stops = λ (more, meaning, means). no_id id more meaning none means;
    } in
    subst P (sym is) here

-- an id alone is no line
pub refused_after_id : (line : List (List ℕ)) (id : List ℕ) (number : ℕ) → line ≡ id ∷ [] → IsId id number → IsRefusedAt IsKeyLine line 1
refused_after_id line id number is found =
    let P : List (List ℕ) → Type 0 = λ l. IsRefusedAt IsKeyLine l 1 in
    let (meaning, of) = some_line number Skipped in
    let here : IsRefusedAt IsKeyLine (id ∷ []) 1 = record {
      within = omega arith;
      goes_on = ((65 ∷ 69 ∷ 83 ∷ []) ∷ (115 ∷ []) ∷ [], meaning, (number, Skipped, found, refl, of));
      stops = λ m means. means;
    } in
    subst P (sym is) here

-- the second word is refused that is no type
pub refused_type : (line words : List (List ℕ)) (id type : List ℕ) (number : ℕ) → line ≡ id ∷ type ∷ words → IsId id number → type_of type ≡ None → IsRefusedAt IsKeyLine line 1
refused_type line words id type number is found none =
    let P : List (List ℕ) → Type 0 = λ l. IsRefusedAt IsKeyLine l 1 in
    let (meaning, of) = some_line number Skipped in
    let here : IsRefusedAt IsKeyLine (id ∷ type ∷ words) 1 = record {
      within = omega arith;
      goes_on = ((65 ∷ 69 ∷ 83 ∷ []) ∷ (115 ∷ []) ∷ [], meaning, (number, Skipped, found, refl, of));
      stops = λ (more, m, means). no_type id type more m none means;
    } in
    subst P (sym is) here

-- an id and a type alone are no line
pub refused_after_type : (line : List (List ℕ)) (id type : List ℕ) (number : ℕ) (key_type : KeyType) → line ≡ id ∷ type ∷ [] → IsId id number → type_of type ≡ Some key_type
    → IsRefusedAt IsKeyLine line 2
refused_after_type line id type number key_type is found typed =
    let P : List (List ℕ) → Type 0 = λ l. IsRefusedAt IsKeyLine l 2 in
    let (meaning, of) = some_line number key_type in
    let here : IsRefusedAt IsKeyLine (id ∷ type ∷ []) 2 = record {
      within = omega arith;
      goes_on = ((115 ∷ []) ∷ [], meaning, (number, key_type, found, typed, of));
      stops = λ m means. means;
    } in
    subst P (sym is) here

-- the third word is refused that is no secret, where the type is a hash function
pub refused_secret : (line words : List (List ℕ)) (id type secret : List ℕ) (number : ℕ) (algorithm : Algorithm) → line ≡ id ∷ type ∷ secret ∷ words → IsId id number
    → type_of type ≡ Some (Hashed algorithm) → secret_of secret ≡ None → IsRefusedAt IsKeyLine line 2
refused_secret line words id type secret number algorithm is found typed none =
    let P : List (List ℕ) → Type 0 = λ l. IsRefusedAt IsKeyLine l 2 in
    let (meaning, of) = some_line number (Hashed algorithm) in
    let here : IsRefusedAt IsKeyLine (id ∷ type ∷ secret ∷ words) 2 = record {
      within = omega arith;
      goes_on = ((115 ∷ []) ∷ [], meaning, (number, Hashed algorithm, found, typed, of));
      stops = λ (more, m, means). no_secret id type secret more algorithm m typed none means;
    } in
    subst P (sym is) here

-- the fourth word is refused
pub refused_more : (line words : List (List ℕ)) (id type secret more : List ℕ) (number : ℕ) (key_type : KeyType) (meaning : Option Key) → line ≡ id ∷ type ∷ secret ∷ more ∷ words
    → IsId id number → type_of type ≡ Some key_type → IsKeyOf number key_type secret meaning → IsRefusedAt IsKeyLine line 3
refused_more line words id type secret more number key_type meaning is found typed of =
    let P : List (List ℕ) → Type 0 = λ l. IsRefusedAt IsKeyLine l 3 in
    let here : IsRefusedAt IsKeyLine (id ∷ type ∷ secret ∷ more ∷ words) 3 = record {
      within = omega arith;
      goes_on = ([], meaning, (number, key_type, found, typed, of));
      stops = λ (_, m, means). means;
    } in
    subst P (sym is) here

-- three words that mean something are a line
pub line_of_three : (line : List (List ℕ)) (id type secret : List ℕ) (number : ℕ) (key_type : KeyType) (meaning : Option Key) → line ≡ id ∷ type ∷ secret ∷ []
    → IsId id number → type_of type ≡ Some key_type → IsKeyOf number key_type secret meaning → IsKeyLine line meaning
line_of_three line id type secret number key_type meaning is found typed of =
    let P : List (List ℕ) → Type 0 = λ l. IsKeyLine l meaning in
    let here : IsKeyLine (id ∷ type ∷ secret ∷ []) meaning = (number, key_type, found, typed, of) in
    subst P (sym is) here
