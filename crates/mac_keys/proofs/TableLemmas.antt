-- Places in tables of keys.
use Rattle.std.proofs.Common.{◌≡◌, ◌≢◌, ℕ, ◌+◌, ◌-◌, ◌<◌, ◌≤◌, ◌==◌, nat_lt, not, true, false, List, [], ◌∷◌, length, get_or, Some, None, slice_get, sym, ap, subst, ◌∙◌, arith, inl, inr}
use Rattle.std.specs.List.{position_or_len, insert}
use Rattle.std.specs.List.Sorted.{IsPartitionedBy, IsPartitionPoint}
use Rattle.std.proofs.lemmas.Bool.Decides.{nat_tests}
use Rattle.std.proofs.lemmas.List.Folds.{find_at}
use Rattle.std.proofs.lemmas.List.Sums.{prefix_len-le-length, prefix_len_passes, prefix_len_stops, prefix_len_is}
use Rattle.std.proofs.lemmas.List.Edits.{length-insert, get_or-insert_below, get_or-insert_at, get_or-insert_above}
use Rattle.std.proofs.lemmas.Option.{slice_get-get_or, slice_get_cases}
use Rattle.std.proofs.lemmas.Bool.{cases_lt}
use Rattle.mac_keys.specs.declared.keys.Key.{Key}
use Rattle.mac_keys.specs.Tables.{IsKeyTable, key_of, place_of, with_key}

is_lower : (a b : ℕ) → nat_lt a b ≡ true → a < b
is_lower a b test = grind (arith, nat_tests)

lower_test : (a b : ℕ) → a < b → nat_lt a b ≡ true
lower_test a b lower = grind (arith, nat_tests)

is_no_lower : (a b : ℕ) → nat_lt a b ≡ false → b ≤ a
is_no_lower a b test = grind (arith, nat_tests)

differs : (a b : ℕ) → a ≢ b → not (a == b) ≡ true
differs a b other = grind (arith, nat_tests)

agrees : (a b : ℕ) → a ≡ b → not (a == b) ≡ false
agrees a b same = grind (arith, nat_tests)

differs_by : (a b : ℕ) → not (a == b) ≡ true → a ≢ b
differs_by a b test = grind (arith, nat_tests)

agrees_by : (a b : ℕ) → not (a == b) ≡ false → a ≡ b
agrees_by a b test = grind (arith, nat_tests)

le_other : (a b : ℕ) → a ≤ b → b ≢ a → a < b
le_other a b le other = omega (arith, other)

none_some : (key : Key) → None ≡ Some key → ⊥
none_some key same = cc

-- each key before the place of an id has a lower one
pub id_before : (keys : List Key) (id k : ℕ) (d : Key) → k < place_of keys id → (get_or keys k d).id < id
id_before keys id k d before = is_lower _ _ (prefix_len_passes (λ (key : Key). nat_lt key.id id) keys k d before)

-- each key from the place of an id on has none that is lower
pub id_from : (keys : List Key) (id k : ℕ) (d : Key) → IsKeyTable keys → place_of keys id ≤ k → k < length keys → id ≤ (get_or keys k d).id
id_from keys id k d table on within =
    let here : id ≤ (get_or keys (place_of keys id) d).id = is_no_lower _ _ (prefix_len_stops (λ (key : Key). nat_lt key.id id) keys d (omega arith)) in
    elim (cases_lt (place_of keys id) k) as (λ _. id ≤ (get_or keys k d).id) [
      | inl below ↦ omega (arith, table.ascending (place_of keys id) k d below within, here)
      | inr above ↦
          let same : place_of keys id ≡ k = omega arith in
          let P : ℕ → Type 0 = λ n. id ≤ (get_or keys n d).id in
          subst P same here
    ]

-- each later key has a higher id than the one for which the place is
pub id_behind : (keys : List Key) (id k : ℕ) (d : Key) → IsKeyTable keys → place_of keys id < k → k < length keys → id < (get_or keys k d).id
id_behind keys id k d table on within =
    omega (arith, table.ascending (place_of keys id) k d on within, id_from keys id (place_of keys id) d table (omega arith) (omega arith))

-- a key before the place of an id has another id
other_before : (keys : List Key) (id k : ℕ) (d : Key) → k < place_of keys id → (get_or keys k d).id ≢ id
other_before keys id k d before same = absurd (omega (arith, id_before keys id k d before, same))

-- a key behind the place of an id has another id
other_behind : (keys : List Key) (id k : ℕ) (d : Key) → IsKeyTable keys → place_of keys id < k → k < length keys → (get_or keys k d).id ≢ id
other_behind keys id k d table behind within same = absurd (omega (arith, id_behind keys id k d table behind within, same))

-- a table whose key at the place of an id has that id has it there
pub key_of-at : (keys : List Key) (id : ℕ) (key : Key) → IsKeyTable keys → place_of keys id < length keys → get_or keys (place_of keys id) key ≡ key → key.id ≡ id → key_of keys id ≡ Some key
key_of-at keys id key table within here same =
    let place : position_or_len (λ (k : Key). k.id == id) keys ≡ place_of keys id =
    prefix_len_is (λ (k : Key). not (k.id == id)) keys (place_of keys id) key (omega arith)
    (λ k before. differs _ _ (other_before keys id k key before))
    (λ _. agrees _ _ (ap (λ (k : Key). k.id) here ∙ same)) in
    find_at (λ (k : Key). k.id == id) keys ∙ ap (slice_get keys) place ∙ slice_get-get_or keys (place_of keys id) key within ∙ ap Some here

-- a table whose key at the place of an id has another one, or that ends there, has no key of that id
pub key_of-nowhere : (keys : List Key) (id : ℕ) → IsKeyTable keys → ((d : Key) → place_of keys id < length keys → (get_or keys (place_of keys id) d).id ≢ id) → key_of keys id ≡ None
key_of-nowhere keys id table other =
    elim (slice_get_cases keys (position_or_len (λ (k : Key). k.id == id) keys)).1 as (λ _. key_of keys id ≡ None) [
      | inl (key, within, is, got) ↦ absurd (
          let place : ℕ = position_or_len (λ (k : Key). k.id == id) keys in
          let stops : not ((get_or keys place key).id == id) ≡ false = prefix_len_stops (λ (k : Key). not (k.id == id)) keys key within in
          other_everywhere keys id place key table (other key) within (agrees_by _ _ stops))
      | inr (_, is) ↦ find_at (λ (k : Key). k.id == id) keys ∙ is
    ]
  where
    other_everywhere : (keys : List Key) (id k : ℕ) (d : Key) → IsKeyTable keys → (place_of keys id < length keys → (get_or keys (place_of keys id) d).id ≢ id) → k < length keys → (get_or keys k d).id ≢ id
    other_everywhere keys id k d table other within =
        elim (cases_lt k (place_of keys id)) as (λ _. (get_or keys k d).id ≢ id) [
          | inl before ↦ other_before keys id k d before
          | inr on ↦ elim (cases_lt (place_of keys id) k) as (λ _. (get_or keys k d).id ≢ id) [
            | inl behind ↦ other_behind keys id k d table behind within
            | inr above ↦
                let same : place_of keys id ≡ k = omega arith in
                let P : ℕ → Type 0 = λ n. (get_or keys n d).id ≢ id in
                subst P same (other (omega arith))
          ]
        ]

-- no key of a table has an id of which there is none
pub id_absent : (keys : List Key) (id k : ℕ) (d : Key) → key_of keys id ≡ None → k < length keys → (get_or keys k d).id ≢ id
id_absent keys id k d absent within =
    let place : ℕ = position_or_len (λ (key : Key). key.id == id) keys in
    let none : slice_get keys place ≡ None = sym (find_at (λ (key : Key). key.id == id) keys) ∙ absent in
    let past : length keys ≤ place = elim (slice_get_cases keys place).1 as (λ _. length keys ≤ place) [
      | inl (key, _, is, _) ↦ absurd (none_some key (sym none ∙ is))
      | inr (past, _) ↦ past
    ] in
    differs_by _ _ (prefix_len_passes (λ (key : Key). not (key.id == id)) keys k d (omega arith))

-- a table with room keeps its order where a key of a new id is added
pub IsKeyTable-with_key : (keys : List Key) (key : Key) → IsKeyTable keys → length keys < 1024 → key_of keys key.id ≡ None → IsKeyTable (with_key keys key)
IsKeyTable-with_key keys key table room new = record {
  room = omega (arith, length-insert keys place key within);
  ascending = λ i j d before last. ascends i j d before (omega (arith, length-insert keys place key within, last));
}
  where
    place : ℕ
    place = place_of keys key.id

    within : place ≤ length keys
    within = prefix_len-le-length (λ (k : Key). nat_lt k.id key.id) keys

    above : (k : ℕ) (d : Key) → place ≤ k → k < length keys → key.id < (get_or keys k d).id
    above k d on last = le_other _ _ (id_from keys key.id k d table on last) (id_absent keys key.id k d new last)

    id_below : (k : ℕ) (d : Key) → k < place → (get_or (insert keys place key) k d).id ≡ (get_or keys k d).id
    id_below k d before = ap (λ (x : Key). x.id) (get_or-insert_below keys place key d k before within)

    id_at : (k : ℕ) (d : Key) → k ≡ place → (get_or (insert keys place key) k d).id ≡ key.id
    id_at k d same =
        let P : ℕ → Type 0 = λ n. (get_or (insert keys place key) n d).id ≡ key.id in
        subst P (sym same) (ap (λ (x : Key). x.id) (get_or-insert_at keys place key d within))

    id_above : (k : ℕ) (d : Key) → place < k → (get_or (insert keys place key) k d).id ≡ (get_or keys (k - 1) d).id
    id_above k d behind =
        let same : k - 1 + 1 ≡ k = omega arith in
        let P : ℕ → Type 0 = λ n. (get_or (insert keys place key) n d).id ≡ (get_or keys (k - 1) d).id in
        subst P same (ap (λ (x : Key). x.id) (get_or-insert_above keys place key d (k - 1) (omega arith) within))

    ascends_to_above : (i j : ℕ) (d : Key) → i < j → place < j → j < length keys + 1 → (get_or (insert keys place key) i d).id < (get_or (insert keys place key) j d).id
    ascends_to_above i j d before behind last =
        elim (cases_lt i place) as (λ _. (get_or (insert keys place key) i d).id < (get_or (insert keys place key) j d).id) [
          | inl below ↦ omega (arith, id_below i d below, id_above j d behind, table.ascending i (j - 1) d (omega arith) (omega arith))
          | inr on ↦ elim (cases_lt place i) as (λ _. (get_or (insert keys place key) i d).id < (get_or (insert keys place key) j d).id) [
            | inl above_place ↦ omega (arith, id_above i d above_place, id_above j d behind, table.ascending (i - 1) (j - 1) d (omega arith) (omega arith))
            | inr no_higher ↦ omega (arith, id_at i d (omega arith), id_above j d behind, above (j - 1) d (omega arith) (omega arith))
          ]
        ]

    ascends : (i j : ℕ) (d : Key) → i < j → j < length keys + 1 → (get_or (insert keys place key) i d).id < (get_or (insert keys place key) j d).id
    ascends i j d before last =
        elim (cases_lt place j) as (λ _. (get_or (insert keys place key) i d).id < (get_or (insert keys place key) j d).id) [
          | inl behind ↦ ascends_to_above i j d before behind last
          | inr on ↦ elim (cases_lt j place) as (λ _. (get_or (insert keys place key) i d).id < (get_or (insert keys place key) j d).id) [
            | inl below ↦ omega (arith, id_below i d (omega arith), id_below j d below, table.ascending i j d before (omega (arith, within)))
            | inr no_lower ↦ omega (arith, id_below i d (omega arith), id_at j d (omega arith), id_before keys key.id i d (omega arith))
          ]
        ]

-- lower ids stand in front
pub lower_in_front : (keys : List Key) (id : ℕ) → IsKeyTable keys → IsPartitionedBy (λ (key : Key). nat_lt key.id id) keys
lower_in_front keys id table = λ i j d on within test.
    elim (cases_lt i j) as (λ _. nat_lt (get_or keys i d).id id ≡ true) [
      | inl before ↦ lower_test _ _ (omega (arith, table.ascending i j d before within, is_lower _ _ test))
      | inr no_lower ↦
          let same : j ≡ i = omega arith in
          let P : ℕ → Type 0 = λ n. nat_lt (get_or keys n d).id id ≡ true in
          subst P same test
    ]

-- the place of an id is where the lower ones end
pub place_of-point : (keys : List Key) (id point : ℕ) → point ≤ length keys
    → IsPartitionPoint (λ (key : Key). nat_lt key.id id ≡ true) (λ (key : Key). nat_lt key.id id ≡ false) keys point → place_of keys id ≡ point
place_of-point [] id point within parts = omega arith
place_of-point (first ∷ keys) id point within parts =
    prefix_len_is (λ (key : Key). nat_lt key.id id) (first ∷ keys) point first within
    (λ k before. parts.0 k first (omega arith) before)
    (λ here. parts.1 point first (omega arith) here)

-- what stands at the place of an id is the key of it, where it has that id
pub found_there : (keys seen : List Key) (id place : ℕ) (key : Key) → seen ≡ keys → place ≡ place_of keys id → IsKeyTable keys
    → place < length seen → key ≡ get_or seen place key → key.id ≡ id → Some key ≡ key_of keys id
found_there keys seen id place key same at table within here is =
    let there : get_or keys (place_of keys id) key ≡ key = sym (here ∙ ap (λ xs. get_or xs place key) same ∙ ap (λ n. get_or keys n key) at) in
    let fits : place_of keys id < length keys = omega (arith, ap length same) in
    sym (key_of-at keys id key table fits there is)

-- where a table ends at the place of an id, it has no key of it
pub not_found_at_end : (keys seen : List Key) (id place : ℕ) → seen ≡ keys → place ≡ place_of keys id → IsKeyTable keys → length seen ≤ place → None ≡ key_of keys id
not_found_at_end keys seen id place same at table past =
    let ended : length keys ≤ place_of keys id = omega (arith, ap length same) in
    sym (key_of-nowhere keys id table (λ d within _. absurd (omega arith)))

-- where a key of another id stands at the place of an id, the table has no key of it
pub not_found_there : (keys seen : List Key) (id place : ℕ) (key : Key) → seen ≡ keys → place ≡ place_of keys id → IsKeyTable keys
    → ((d : Key) → key ≡ get_or seen place d) → key.id ≢ id → None ≡ key_of keys id
not_found_there keys seen id place key same at table here other =
    let there : (d : Key) → key ≡ get_or keys (place_of keys id) d = λ d. here d ∙ ap (λ xs. get_or xs place d) same ∙ ap (λ n. get_or keys n d) at in
    sym (key_of-nowhere keys id table (λ d _ is. other (ap (λ (k : Key). k.id) (there d) ∙ is)))
