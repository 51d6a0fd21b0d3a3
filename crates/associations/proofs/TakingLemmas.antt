-- What is lent from a place of a list.
use Rattle.std.proofs.Common.{◌≡◌, ◌<◌, ℕ, List, Option, Some, IfSome, length, slice_get, get_or, refl, sym, subst}
use Rattle.std.proofs.Math.ListN.{set}
use Rattle.std.proofs.lemmas.List.Elements.{All-get_or, All-set}
use Rattle.std.proofs.lemmas.Option.{slice_get_read}
use Rattle.std.specs.List.{All}
use Rattle.associations.specs.Associations.{IsAssociation}
use Rattle.associations.specs.declared.association.Association.{Association}

-- the element at a place is the one that was lent from there
pub lent_at : (xs : List Association) (i : ℕ) (x : Association) → i < length xs → x ≡ get_or xs i x → slice_get xs i ≡ Some x
lent_at xs i x within lent = slice_get_read xs (length xs) i x refl within lent

-- what holds of it holds of the element at the place
pub if_there : (found : Option Association) (x : Association) (P : Association → Type 0) → found ≡ Some x → P x → IfSome found P
if_there found x P is holds = subst (λ (o : Option Association). IfSome o P) (sym is) holds

-- where a change of one keeps the widths of its numbers, the whole list keeps them
pub All-changed : (xs : List Association) (i : ℕ) (d y : Association) → i < length xs
    → (IsAssociation (get_or xs i d) → IsAssociation y) → All IsAssociation xs → All IsAssociation (set xs i y)
All-changed xs i d y within keeps all = All-set IsAssociation xs i y (keeps (All-get_or IsAssociation xs i d within all)) all
