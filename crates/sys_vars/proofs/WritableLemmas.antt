-- The variables are read back from what is written of them.
use Rattle.std.proofs.Common.{◌≡◌, ◌≢◌, ℕ, Bool, true, false, List, [], ◌∷◌, ◌++◌, length, Option, Some, None, refl, arith}
use Rattle.std.specs.Prelude.{slice_get, nat_lt, bytes_eq, not, ◌&&◌, if◌then◌else◌, IfSome, codes}
use Rattle.std.specs.List.{AllByRecursion, list_all}
use Rattle.std.specs.Option.{option_to_list}
use Rattle.std.proofs.lemmas.Bool.{ltb-true}
use Rattle.std.proofs.lemmas.Bool.Decides.{nat_tests}
use Rattle.std.proofs.lemmas.Slice.Eq.{bytes_eq-Decides}
use Rattle.mode6_frame.specs.declared.items.Item.{Item}
use Rattle.mode6_frame.specs.Items.{Quoted, Bare, AreNameOctets, IsValueText, is_bare_octet, is_name_octet, is_quoted_octet}
use Rattle.mode6_frame.specs.ItemTexts.{IsWritable, has_quotes}
use Rattle.sys_vars.specs.declared.subject.Subject.{Subject}
use Rattle.sys_vars.specs.declared.subject.Subject.TheVariants.{System, Peer}
use Rattle.sys_vars.specs.Names.{system_names, peer_names}
use Rattle.sys_vars.specs.Variables.{IsPlainValue, is_value_octet, names_in}
use Rattle.sys_vars.proofs.ShortLemmas.{both, passes}

-- what a name of a variable is: not empty, of octets of names, and not that of the tag
abbrev is_variable_name : List ℕ → Bool
is_variable_name name = nat_lt 0 (length name) && (list_all is_name_octet name && not (bytes_eq name (codes "resp")))

-- each name of a variable is such
names-are : (subject : Subject) → list_all is_variable_name (names_in subject) ≡ true
unfolding system_names peer_names
names-are System = refl
names-are (Peer peer) = refl

-- octets that pass the test are octets of names
names-from : (octets : List ℕ) → list_all is_name_octet octets ≡ true → AreNameOctets octets
names-from [] all = tt
names-from (x ∷ octets) all = ((both _ _ all).0, names-from octets (both _ _ all).1)

-- an octet of a value is one in quotes, and one of a bare value
value-quoted : (octet : ℕ) → is_value_octet octet ≡ true → is_quoted_octet octet ≡ true
value-quoted octet is = grind (arith, nat_tests)

-- and outside of quotes
value-bare : (octet : ℕ) → is_value_octet octet ≡ true → is_bare_octet octet ≡ true
value-bare octet is = grind (arith, nat_tests)

-- where each octet that passes one test passes another, all do
each : (p q : ℕ → Bool) → ((octet : ℕ) → p octet ≡ true → q octet ≡ true) → (octets : List ℕ) → AllByRecursion (λ octet. p octet ≡ true) octets → AllByRecursion (λ octet. q octet ≡ true) octets
each p q passes [] are = tt
each p q passes (x ∷ octets) are = (passes x are.0, each p q passes octets are.1)

-- so a value is one in quotes and one without
value-text : (value : List ℕ) (quoted : Bool) → IsPlainValue value → IsValueText (if quoted then Quoted value else Bare value)
value-text value true is = each is_value_octet is_quoted_octet value-quoted value is.octets
value-text value false is = (each is_value_octet is_bare_octet value-bare value is.octets, is.trimmed)

-- what differs from the name of the tag is not it
not_resp : (name : List ℕ) → not (bytes_eq name (codes "resp")) ≡ true → name ≢ codes "resp"
not_resp name differs same =
    let test : bytes_eq name (codes "resp") ≡ true = (bytes_eq-Decides name (codes "resp")).1 same in
    cc

-- a variable is read back where its value is one
pub IsWritable-variable : (subject : Subject) (number : ℕ) (name value : List ℕ) → slice_get (names_in subject) number ≡ Some name → IsPlainValue value
    → IsWritable (record { name = name; value = Some value })
IsWritable-variable subject number name value is plain =
    let name_is = passes is_variable_name (names_in subject) number name (names-are subject) is in
    let rest = both _ _ (both _ _ name_is).1 in
    record {
      some = ltb-true 0 (length name) (both _ _ name_is).0;
      name = names-from name rest.0;
      value = (each is_value_octet is_quoted_octet value-quoted value plain.octets, value-text value (has_quotes name value) plain);
      no_tag = not_resp name rest.1;
    }

-- one more, if there is one
pub writable-kept : (items : List Item) (item : Option Item) → AllByRecursion IsWritable items → IfSome item IsWritable → AllByRecursion IsWritable (items ++ option_to_list item)
writable-kept [] None are is = tt
writable-kept [] (Some item) are is = (is, tt)
writable-kept (x ∷ items) item are is = (are.0, writable-kept items item are.1 is)
