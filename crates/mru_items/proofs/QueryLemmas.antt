-- What items ask for: what is read exactly.
use Rattle.std.proofs.Common.{◌≡◌, ℕ, List, [], ◌∷◌, Option, Some, None, refl, subst}
use Rattle.std.specs.Prelude.{IfSome}
use Rattle.mru_items.specs.Names.{the_one}
use Rattle.mru_items.specs.Queries.{IsOnce, read_of}
use Rattle.mru_items.specs.declared.query.Query.{Query}
use Rattle.mru_items.specs.declared.query.ReadRequest.{ReadRequest}
use Rattle.mru_items.specs.Values.{IsExactly}

-- what is found, and is the only one
pub exactly-is : {A : Type 0} (Is : A → Type 0) (result : Option A) → IfSome result Is → ((it : A) → Is it → result ≡ Some it) → IsExactly Is result
exactly-is Is (Some it) found only = (found, λ other is. cc (only other is))
exactly-is Is None found only = λ other is. cc (only other is)

-- two facts of what is found are one
pub found-both : {A : Type 0} (Is Fits : A → Type 0) (result : Option A) → IfSome result Is → IfSome result Fits → IfSome result (λ it. Fits it × Is it)
found-both Is Fits (Some it) is fits = (fits, is)
found-both Is Fits None is fits = tt

-- a value that stands once is the one
pub once-is : {A : Type 0} (Spells : List ℕ → A → Type 0) (values : List (Option (List ℕ))) (value : List ℕ) (it : A)
    → Some value ≡ the_one values → Spells value it → IsOnce Spells values it
once-is Spells [] value it one spells = cc one
once-is Spells (None ∷ values) value it one spells = cc one
once-is Spells (Some first ∷ []) value it one spells = let same : value ≡ first = cc one in subst (λ text. Spells text it) same spells
once-is Spells (Some first ∷ second ∷ values) value it one spells = cc one

-- a read that asks for this and names these pairs is the one
pub read_of-same : (query : Query) (request : ReadRequest) → query ≡ record { filter = request.filter; limit = request.limit; frags = request.frags }
    → read_of query request.pairs ≡ request
read_of-same query request same = rw same refl
