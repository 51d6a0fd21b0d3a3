-- Items of a control message: names with or without values in a text, separated by commas (RFC 9327, section 4).
-- Which octets a name and a value may have, and what is skipped, is our own rule.
use Rattle.std.specs.Prelude.{◌≡◌, ℕ, ◌<◌, Bool, true, false, not, ◌==◌, ◌&&◌, ◌||◌, List, [], ◌∷◌, ◌++◌, length, Some, None}
use Rattle.std.specs.List.{AllByRecursion}
use Rattle.std.specs.Int.{is_in_range}
use Rattle.refusals.specs.Refusals.{IsRefusedAt}
use Rattle.refusals.specs.Told.{told_number}
use Rattle.mode6_frame.specs.declared.items.Item.{Item}
use Rattle.mode6_frame.specs.declared.items.ItemFault.{ItemFault}
use Rattle.mode6_frame.specs.declared.items.ItemFault.TheVariants.{At, NoMemory}

-- a comma, which separates items
abbrev pub comma : ℕ
comma = 44

-- an equals sign, behind which a value stands
abbrev pub equals : ℕ
equals = 61

-- a quotation mark, which begins and ends a value in quotes
abbrev pub quote : ℕ
quote = 34

-- space, tab, carriage return and line feed
abbrev pub is_white : ℕ → Bool
is_white octet = octet == 32 || octet == 9 || octet == 13 || octet == 10

-- an octet of a name: visible ASCII other than the comma, the equals sign and the quotation mark
abbrev pub is_name_octet : ℕ → Bool
is_name_octet octet = is_in_range 33 126 octet && not (octet == comma || octet == equals || octet == quote)

-- an octet of a value in quotes: ASCII from space on other than the quotation mark
abbrev pub is_quoted_octet : ℕ → Bool
is_quoted_octet octet = is_in_range 32 126 octet && not (octet == quote)

-- an octet of a bare value: these and tab, other than the comma
abbrev pub is_bare_octet : ℕ → Bool
is_bare_octet octet = (is_quoted_octet octet || octet == 9) && not (octet == comma)

-- octets of white space
abbrev pub AreWhite : List ℕ → Type 0
AreWhite = AllByRecursion (λ octet. is_white octet ≡ true)

-- octets of names
abbrev pub AreNameOctets : List ℕ → Type 0
AreNameOctets = AllByRecursion (λ octet. is_name_octet octet ≡ true)

-- octets that neither begin nor end with white space; none are such
pub record IsTrimmed (octets : List ℕ) : Type 0 where
  pub begins : (octet : ℕ) → (behind : List ℕ) → octets ≡ octet ∷ behind → is_white octet ≡ false
  pub ends : (before : List ℕ) → (octet : ℕ) → octets ≡ before ++ octet ∷ [] → is_white octet ≡ false

-- a value as a text has it: in quotes, or bare
pub data ValueText : Type 0 where
  Quoted : (value : List ℕ) → ValueText
  Bare : (value : List ℕ) → ValueText

-- a value has the octets that it may have; a bare one neither begins nor ends with white space
abbrev pub IsValueText : ValueText → Type 0
IsValueText (Quoted value) = AllByRecursion (λ octet. is_quoted_octet octet ≡ true) value
IsValueText (Bare value) = AllByRecursion (λ octet. is_bare_octet octet ≡ true) value × IsTrimmed value

-- the octets of a value in a text: the quotes stand around it
abbrev pub value_octets : ValueText → List ℕ
value_octets (Quoted value) = quote ∷ value ++ quote ∷ []
value_octets (Bare value) = value

-- the value itself, without quotes
abbrev pub value_in : ValueText → List ℕ
value_in (Quoted value) = value
value_in (Bare value) = value

-- what stands between two commas: white space; or a name with white space around it; or a name, an equals sign and a
-- value, with white space around each
pub data Slot : Type 0 where
  Blank : (white : List ℕ) → Slot
  Named : (before name behind : List ℕ) → Slot
  Valued : (before name left right : List ℕ) (value : ValueText) (behind : List ℕ) → Slot

-- the parts of a slot have the octets that they may have, and a name has one at least
abbrev pub IsSlot : Slot → Type 0
IsSlot (Blank white) = AreWhite white
IsSlot (Named before name behind) = AreWhite before × (0 < length name) × AreNameOctets name × AreWhite behind
IsSlot (Valued before name left right value behind) =
    AreWhite before × (0 < length name) × AreNameOctets name × AreWhite left × AreWhite right × IsValueText value × AreWhite behind

-- the octets of a slot
abbrev pub slot_octets : Slot → List ℕ
slot_octets (Blank white) = white
slot_octets (Named before name behind) = before ++ name ++ behind
slot_octets (Valued before name left right value behind) =
    before ++ name ++ left ++ (equals ∷ right) ++ value_octets value ++ behind

-- the items in a slot, one or none
abbrev pub slot_items : Slot → List Item
slot_items (Blank white) = []
slot_items (Named before name behind) = record { name = name; value = None } ∷ []
slot_items (Valued before name left right value behind) = record { name = name; value = Some (value_in value) } ∷ []

-- the octets of slots, each of which ends at a comma
abbrev pub closed_octets : List Slot → List ℕ
closed_octets [] = []
closed_octets (slot ∷ slots) = slot_octets slot ++ comma ∷ closed_octets slots

-- the items in slots, in their order
abbrev pub items_of : List Slot → List Item
items_of [] = []
items_of (slot ∷ slots) = slot_items slot ++ items_of slots

-- the text is slots separated by commas, and these are their items
pub record IsItemText (text : List ℕ) (items : List Item) : Type 0 where
  pub closed : List Slot
  pub last : Slot
  pub closed_slots : AllByRecursion IsSlot closed
  pub last_slot : IsSlot last
  pub spelled : text ≡ closed_octets closed ++ slot_octets last
  pub named : items ≡ items_of closed ++ slot_items last

-- what the fault says of the text is so: the place is that of the first octet at which no text of items goes on
abbrev pub IsDue : List ℕ → ItemFault → Type 0
IsDue text (At place) = (octets : ℕ) × IsRefusedAt IsItemText text octets × (place ≡ told_number octets)
IsDue text NoMemory = Unit {0}
