-- A reader of items, octet by octet: what is read so far, and which octet may come next (our own words).
use Rattle.std.specs.Prelude.{◌≡◌, ℕ, ◌-◌, ◌<◌, ◌≤◌, ◌==◌, Bool, false, if◌then◌else◌, List, [], ◌∷◌, ◌++◌, length, take, drop, slice_index, Option, Some, None}
use Rattle.std.specs.List.{list_all}
use Rattle.refusals.specs.Machines.{Machine}
use Rattle.refusals.specs.Told.{told_number}
use Rattle.mode6_frame.specs.declared.items.Item.{Item}
use Rattle.mode6_frame.specs.declared.items.ItemFault.{ItemFault}
use Rattle.mode6_frame.specs.declared.items.ItemFault.TheVariants.{At, NoMemory}
use Rattle.mode6_frame.specs.Items.{comma, equals, quote, is_white, is_name_octet, is_quoted_octet, is_bare_octet, AreWhite, ValueText, Quoted, Bare, IsValueText, value_octets, value_in, Slot, Blank, Named, Valued, IsSlot, slot_octets, slot_items}

-- the items of the slots that are closed, and the open slot, which a comma may close; or its parts up to a value whose quotes
-- are open
pub data ItemState : Type 0 where
  Within : (items : List Item) (slot : Slot) → ItemState
  Quoting : (items : List Item) (before name left right value : List ℕ) → ItemState

-- the items of a text that ends here, where it may
abbrev pub items_in : ItemState → Option (List Item)
items_in (Within items slot) = Some (items ++ slot_items slot)
items_in (Quoting items before name left right value) = None

-- a slot with more white space behind it
abbrev pub white_behind : List ℕ → Slot → Slot
white_behind more (Blank white) = Blank (white ++ more)
white_behind more (Named before name behind) = Named before name (behind ++ more)
white_behind more (Valued before name left right value behind) = Valued before name left right value (behind ++ more)

-- where an octet leads that lengthens a name, which no white space has ended
abbrev pub next_of_name : List Item → List ℕ → List ℕ → List ℕ → ℕ → Option ItemState
next_of_name items before name [] octet = if is_name_octet octet then Some (Within items (Named before (name ++ octet ∷ []) [])) else None
next_of_name items before name (space ∷ behind) octet = None

-- where an octet leads from the open slot that is neither white space nor a comma
abbrev pub next_visible : List Item → Slot → ℕ → Option ItemState
next_visible items (Blank white) octet = if is_name_octet octet then Some (Within items (Named white (octet ∷ []) [])) else None
next_visible items (Named before name behind) octet =
    if octet == equals then Some (Within items (Valued before name behind [] (Bare []) [])) else next_of_name items before name behind octet
next_visible items (Valued before name left right (Quoted value) behind) octet = None
next_visible items (Valued before name left right (Bare []) behind) octet =
    if octet == quote then Some (Quoting items before name left (right ++ behind) [])
    else (if is_bare_octet octet then Some (Within items (Valued before name left (right ++ behind) (Bare (octet ∷ [])) [])) else None)
next_visible items (Valued before name left right (Bare (first ∷ value)) behind) octet =
    if list_all is_bare_octet behind then
    (if is_bare_octet octet then Some (Within items (Valued before name left right (Bare ((first ∷ value) ++ behind ++ octet ∷ [])) [])) else None)
    else None

-- where an octet leads
abbrev pub next_state : ItemState → ℕ → Option ItemState
next_state (Within items slot) octet =
    if octet == comma then Some (Within (items ++ slot_items slot) (Blank []))
    else (if is_white octet then Some (Within items (white_behind (octet ∷ []) slot)) else next_visible items slot octet)
next_state (Quoting items before name left right value) octet =
    if octet == quote then Some (Within items (Valued before name left right (Quoted value) []))
    else (if is_quoted_octet octet then Some (Quoting items before name left right (value ++ octet ∷ [])) else None)

-- the reader of items
abbrev pub item_reader : Machine ItemState ℕ (List Item)
item_reader = record { next = next_state; value = items_in }

-- a slot as the reader has it, with all white space behind an empty value
abbrev pub as_read : Slot → Slot
as_read (Valued before name left right (Bare []) behind) = Valued before name left [] (Bare []) (right ++ behind)
as_read (Valued before name left right (Bare (first ∷ value)) behind) = Valued before name left right (Bare (first ∷ value)) behind
as_read (Valued before name left right (Quoted value) behind) = Valued before name left right (Quoted value) behind
as_read (Named before name behind) = Named before name behind
as_read (Blank white) = Blank white

-- no octet but a comma may come first in what is left, from the open slot
abbrev pub IsEnded : Slot → List ℕ → Type 0
IsEnded slot [] = Unit {0}
IsEnded slot (octet ∷ rest) = (is_white octet ≡ false) × ((items : List Item) → next_visible items slot octet ≡ None)

-- the octets from one place up to another
abbrev pub part : List ℕ → ℕ → ℕ → List ℕ
part text at end = take (end - at) (drop at text)

-- the slot that begins at a place ends at another: its item is added, and only a comma goes on
pub record IsSlotRead (text : List ℕ) (at end : ℕ) (items_before items : List Item) : Type 0 where
  pub begun : at ≤ end
  pub within : end ≤ length text
  pub slot : Slot
  pub is_slot : IsSlot slot
  pub spelled : part text at end ≡ slot_octets slot
  pub here : items ≡ items_before ++ slot_items slot
  pub ended : IsEnded (as_read slot) (drop end text)

-- the first of these octets is this one
abbrev pub is_octet_at : ℕ → List ℕ → Bool
is_octet_at wanted [] = false
is_octet_at wanted (octet ∷ rest) = octet == wanted

-- from a place between two others on there is white space, and none right before it
pub record IsTrimmedAt (text : List ℕ) (begin cut end : ℕ) : Type 0 where
  pub begun : begin ≤ cut
  pub within : cut ≤ end
  pub white : AreWhite (part text cut end)
  pub visible : begin < cut → is_white (slice_index text (cut - 1)) ≡ false

-- neither a quotation mark nor an octet of a value in quotes comes first in what is left
abbrev pub IsUnclosedBefore : List ℕ → Type 0
IsUnclosedBefore [] = Unit {0}
IsUnclosedBefore (octet ∷ rest) = (is_quoted_octet octet ≡ false) × ((octet == quote) ≡ false)

-- the value behind the equals sign before a place has quotes that nothing closes, up to another place
pub record IsUnclosedValue (text : List ℕ) (at end : ℕ) : Type 0 where
  pub begun : at ≤ end
  pub within : end ≤ length text
  pub right : List ℕ
  pub value : List ℕ
  pub are_white : AreWhite right
  pub is_value : IsValueText (Quoted value)
  pub spelled : part text at end ≡ right ++ quote ∷ value
  pub unclosed : IsUnclosedBefore (drop end text)

-- the same of the slot that begins at a place
pub record IsUnclosedSlot (text : List ℕ) (at end : ℕ) : Type 0 where
  pub begun : at ≤ end
  pub within : end ≤ length text
  pub before : List ℕ
  pub name : List ℕ
  pub left : List ℕ
  pub right : List ℕ
  pub value : List ℕ
  pub is_slot : IsSlot (Valued before name left right (Quoted value) [])
  pub spelled : part text at end ≡ before ++ name ++ left ++ (equals ∷ right) ++ quote ∷ value
  pub unclosed : IsUnclosedBefore (drop end text)

-- a fault tells such a place, or that memory was wanting
abbrev pub IsToldAt : (ℕ → Type 0) → ItemFault → Type 0
IsToldAt is (At place) = (octets : ℕ) × is octets × (place ≡ told_number octets)
IsToldAt is NoMemory = Unit {0}

-- the value behind the equals sign before a place, with the white space around it, ends at another: it stands between two
-- places, and only a comma goes on
pub record IsValueRead (text : List ℕ) (at begin end past : ℕ) : Type 0 where
  pub begun : at ≤ past
  pub within : past ≤ length text
  pub right : List ℕ
  pub value : ValueText
  pub behind : List ℕ
  pub are_white : AreWhite right × AreWhite behind
  pub is_value : IsValueText value
  pub spelled : part text at past ≡ right ++ value_octets value ++ behind
  pub here : value_in value ≡ part text begin end
  pub place : begin ≤ end
  pub fits : end ≤ length text
  pub ended : (before name left : List ℕ) → IsEnded (as_read (Valued before name left right value behind)) (drop past text)
