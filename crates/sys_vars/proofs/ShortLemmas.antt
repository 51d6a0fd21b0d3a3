-- The text of each variable has few octets, where its value has.
use Rattle.std.proofs.Common.{◌≡◌, ◌≤◌, ◌+◌, ℕ, zero, suc, Bool, true, false, List, [], ◌∷◌, ◌++◌, length, Option, Some, None, refl, subst, arith, length-append}
use Rattle.std.specs.Prelude.{slice_get, nat_le, ◌&&◌, if◌then◌else◌, IfSome, codes}
use Rattle.std.specs.List.{AllByRecursion, list_all}
use Rattle.std.specs.Option.{option_to_list}
use Rattle.std.proofs.lemmas.Bool.{leb-true}
use Rattle.mode6_frame.specs.declared.items.Item.{Item}
use Rattle.mode6_frame.specs.Items.{Quoted, Bare, value_octets}
use Rattle.mode6_frame.specs.ItemTexts.{has_quotes, written_value}
use Rattle.sys_vars.specs.declared.subject.Subject.{Subject}
use Rattle.sys_vars.specs.declared.subject.Subject.TheVariants.{System, Peer}
use Rattle.sys_vars.specs.Names.{system_names, peer_names}
use Rattle.sys_vars.specs.Variables.{IsShort, names_in}

-- both parts of a test
pub both : (a b : Bool) → (a && b) ≡ true → (a ≡ true) × (b ≡ true)
both true b is = (refl, is)
both false b is = cc

-- a test that all pass is passed by each
pub passes : (test : List ℕ → Bool) (names : List (List ℕ)) (number : ℕ) (name : List ℕ) → list_all test names ≡ true → slice_get names number ≡ Some name → test name ≡ true
passes test [] number name all is = absurd cc
passes test (x ∷ xs) zero name all is =
    let here : x ≡ name = cc in
    subst (λ n. test n ≡ true) here (both _ _ all).0
passes test (x ∷ xs) (suc number) name all is = passes test xs number name (both _ _ all).1 is

-- a name has ten octets at most
names-short : (subject : Subject) → list_all (λ name. nat_le (length name) 10) (names_in subject) ≡ true
unfolding system_names peer_names
names-short System = refl
names-short (Peer peer) = refl

-- a value has two octets more in quotes
pub value-short : (name value : List ℕ) → length (value_octets (written_value name value)) ≤ length value + 2
value-short name value = by_quotes (has_quotes name value)
  where
    by_quotes : (quoted : Bool) → length (value_octets (if quoted then Quoted value else Bare value)) ≤ length value + 2
    by_quotes true = omega (arith, length-append value (34 ∷ []))
    by_quotes false = omega arith

-- so a variable is short where its value is
pub IsShort-variable : (subject : Subject) (number : ℕ) (name value : List ℕ) → slice_get (names_in subject) number ≡ Some name → length value ≤ 237
    → IsShort (record { name = name; value = Some value })
IsShort-variable subject number name value is short =
    let few : length name ≤ 10 = leb-true (length name) 10 (passes (λ n. nat_le (length n) 10) (names_in subject) number name (names-short subject) is) in
    omega (arith, few, short, value-short name value, length-append name (codes "=" ++ value_octets (written_value name value)))

-- one item more, if there is one, and each is short
pub short-kept : (items : List Item) (item : Option Item) → AllByRecursion IsShort items → IfSome item IsShort → AllByRecursion IsShort (items ++ option_to_list item)
short-kept [] None are is = tt
short-kept [] (Some item) are is = (is, tt)
short-kept (x ∷ items) item are is = (are.0, short-kept items item are.1 is)

-- there is one more at most
pub few-kept : (items : List Item) (item : Option Item) → length (items ++ option_to_list item) ≤ length items + 1
few-kept items None = omega (arith, length-append items (option_to_list None))
few-kept items (Some item) = omega (arith, length-append items (item ∷ []))
