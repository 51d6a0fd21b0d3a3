-- The rows of an answer: what is found of each is all that there is.
use Rattle.std.proofs.Common.{◌≡◌, ℕ, zero, suc, ◌≤◌, Bool, true, false, if◌then◌else◌, inl, inr, Option, Some, None, List, [], ◌∷◌, length, drop, map, bytes_eq, refl, arith}
use Rattle.mode6_frame.specs.declared.items.Item.{Item}
use Rattle.mru_items.specs.Answers.{Among, IsFoundAs, told_by}
use Rattle.mru_items.specs.Names.{items_named, the_one, values_of}

-- an item in front keeps what is among the values
pub among-behind : (test : Bool) (item : Item) (items : List Item) (value : Option (List ℕ)) → Among (map (λ it. it.value) items) value
    → Among (map (λ it. it.value) (if test then item ∷ items else items)) value
among-behind true item items value among = inr among
among-behind false item items value among = among

-- what stands first from a place on is among all
pub among-dropped : (name : List ℕ) (items : List Item) (at : ℕ) (value : Option (List ℕ)) (rest : List (Option (List ℕ)))
    → values_of name (drop at items) ≡ value ∷ rest → Among (values_of name items) value
among-dropped name items zero value rest is = rw is (inl refl)
among-dropped name [] (suc at) value rest is = absurd (cc is)
among-dropped name (item ∷ items) (suc at) value rest is =
    among-behind (bytes_eq item.name name) item (items_named name items) value (among-dropped name items at value rest is)

-- values among which one is wanting are not one with a value
pub among-none : (values : List (Option (List ℕ))) → Among values None → the_one values ≡ None
among-none [] among = absurd among
among-none (None ∷ values) among = refl
among-none (Some first ∷ []) (inl same) = absurd (cc same)
among-none (Some first ∷ []) (inr among) = absurd among
among-none (Some first ∷ second ∷ values) among = refl

-- the one value is each that is among them
pub among-one : (values : List (Option (List ℕ))) (value : List ℕ) → Among values (Some value) → length values ≡ 1 → the_one values ≡ Some value
among-one [] value among one = absurd among
among-one (first ∷ []) value (inl same) one = rw same refl
among-one (first ∷ []) value (inr among) one = absurd among
among-one (first ∷ second ∷ values) value among one = absurd (omega (arith, one))

-- a value among others that has no form leaves none
pub told-none : {A : Type 0} (form : List ℕ → Option A) (values : List (Option (List ℕ))) (value : List ℕ) → Among values (Some value)
    → form value ≡ None → told_by form values ≡ None
told-none form [] value among none = absurd among
told-none form (None ∷ values) value among none = refl
told-none form (Some first ∷ []) value (inl same) none = let is : first ≡ value = cc same in rw is none
told-none form (Some first ∷ []) value (inr among) none = absurd among
told-none form (Some first ∷ second ∷ values) value among none = refl

-- no one value tells nothing
pub told-missing : {A : Type 0} (form : List ℕ → Option A) (values : List (Option (List ℕ))) → the_one values ≡ None → told_by form values ≡ None
told-missing form values none = rw none refl

-- what is found is told where it is the one value
pub told-found : {A : Type 0} (form : List ℕ → Option A) (values : List (Option (List ℕ))) (it : A) → IsFoundAs form values it → length values ≡ 1
    → told_by form values ≡ Some it
told-found form values it found one = rw (among-one values found.value found.among one) found.told

-- where something is found there is a value
pub found-some : {A : Type 0} (form : List ℕ → Option A) (values : List (Option (List ℕ))) (it : A) → IsFoundAs form values it → 1 ≤ length values
found-some form [] it found = absurd found.among
found-some form (first ∷ values) it found = omega arith
