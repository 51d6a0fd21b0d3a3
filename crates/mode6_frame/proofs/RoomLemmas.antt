-- How many items a text has room for.
use Rattle.std.proofs.Common.{◌≡◌, ◌≤◌, ◌+◌, ◌*◌, ℕ, List, [], ◌∷◌, ◌++◌, length, ap, ◌∙◌, arith, length-append}
use Rattle.std.specs.List.{AllByRecursion}
use Rattle.mode6_frame.specs.declared.items.Item.{Item}
use Rattle.mode6_frame.specs.Items.{comma, equals, value_octets, Slot, Blank, Named, Valued, IsSlot, slot_octets, slot_items, closed_octets, items_of, IsItemText}

-- a slot has two octets for each of its items, if its comma is counted
slot_room : (slot : Slot) → IsSlot slot → 2 * length (slot_items slot) ≤ length (slot_octets slot) + 1
slot_room (Blank white) is = omega arith
slot_room (Named before name behind) is =
    omega (arith, is.1, length-append (before ++ name) behind, length-append before name)
slot_room (Valued before name left right value behind) is =
    let named = (before ++ name) ++ left in
    let opened = named ++ equals ∷ right in
    omega (arith, length-append (opened ++ value_octets value) behind, length-append opened (value_octets value), length-append named (equals ∷ right))

-- and so have slots that commas end
closed_room : (closed : List Slot) → AllByRecursion IsSlot closed → 2 * length (items_of closed) ≤ length (closed_octets closed)
closed_room [] are = omega arith
closed_room (slot ∷ closed) are =
    omega (arith, slot_room slot are.0, closed_room closed are.1, length-append (slot_octets slot) (comma ∷ closed_octets closed), length-append (slot_items slot) (items_of closed))

-- a text names no more items than it has room for: an octet each, and a comma between two
pub item_room : (text : List ℕ) (items : List Item) → IsItemText text items → 2 * length items ≤ length text + 1
item_room text items is =
    let spelled : length text ≡ length (closed_octets is.closed) + length (slot_octets is.last) = ap length is.spelled ∙ length-append (closed_octets is.closed) (slot_octets is.last) in
    let named : length items ≡ length (items_of is.closed) + length (slot_items is.last) = ap length is.named ∙ length-append (items_of is.closed) (slot_items is.last) in
    omega (arith, spelled, named, closed_room is.closed is.closed_slots, slot_room is.last is.last_slot)
