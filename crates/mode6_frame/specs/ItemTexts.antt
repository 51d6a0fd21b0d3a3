-- How items are written into a text, and which are read back from it (RFC 9327, section 4; the quotes are our own rule).
use Rattle.std.specs.Prelude.{◌≡◌, ◌≢◌, ℕ, ◌<◌, Bool, true, not, ◌==◌, ◌&&◌, ◌||◌, if◌then◌else◌, Option, Some, None, List, [], ◌∷◌, ◌++◌, length, codes, bytes_eq}
use Rattle.std.specs.List.{AllByRecursion, list_any, join_by}
use Rattle.mode6_frame.specs.declared.items.Item.{Item}
use Rattle.mode6_frame.specs.Items.{comma, is_quoted_octet, AreNameOctets, ValueText, Quoted, Bare, IsValueText, value_octets}

-- the name of a variable whose value is a list of numbers with spaces between, which stand without quotes: the samples
-- of a clock filter
abbrev pub is_number_list : List ℕ → Bool
is_number_list name =
    bytes_eq name (codes "filtdelay") || bytes_eq name (codes "filtoffset") || bytes_eq name (codes "filtdisp")

-- a space or a comma
abbrev pub is_separator : ℕ → Bool
is_separator octet = octet == 32 || octet == comma

-- a value with a space or a comma stands in quotes, but for a list of numbers
abbrev pub has_quotes : List ℕ → List ℕ → Bool
has_quotes name value = list_any is_separator value && not (is_number_list name)

-- a value of a variable of this name as it is written: in quotes, or bare
abbrev pub written_value : List ℕ → List ℕ → ValueText
written_value name value = if has_quotes name value then Quoted value else Bare value

-- an equals sign and the value, where there is one
abbrev pub value_part : List ℕ → Option (List ℕ) → List ℕ
value_part name None = []
value_part name (Some value) = codes "=" ++ value_octets (written_value name value)

-- the text of an item: its name, and its value where it has one
abbrev pub item_text : Item → List ℕ
item_text item = item.name ++ value_part item.name item.value

-- the text of items, each of which a comma and a space part from the next; it ends with carriage return and line feed, and
-- no items have no text
abbrev pub plain_text : List Item → List ℕ
plain_text [] = []
plain_text (item ∷ items) = join_by item_text (codes ", ") (item ∷ items) ++ codes "\r\n"

-- a value that is read back from what is written of it
abbrev pub IsWritableValue : List ℕ → Option (List ℕ) → Type 0
IsWritableValue name None = Unit {0}
IsWritableValue name (Some value) =
    AllByRecursion (λ octet. is_quoted_octet octet ≡ true) value × IsValueText (written_value name value)

-- an item that is read back from its text: its name is one, its value has the octets that stand in quotes, and a list of
-- numbers has no comma and no space at an end; no item is named as the tag of a fragment is
pub record IsWritable (item : Item) : Type 0 where
  pub some : 0 < length item.name
  pub name : AreNameOctets item.name
  pub value : IsWritableValue item.name item.value
  pub no_tag : item.name ≢ codes "resp"
