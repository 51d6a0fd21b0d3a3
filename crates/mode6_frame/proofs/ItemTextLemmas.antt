-- What a text of items means or where it is refused, from the slot that was read last.
use Rattle.std.proofs.Common.{◌≡◌, ℕ, ◌+◌, ◌-◌, ◌<◌, ◌≤◌, ◌==◌, false, List, [], ◌∷◌, ◌++◌, length, take, drop, slice_index, Ok, Err, Some, inl, inr, refl, sym, ap, ◌∙◌, take-add, length-drop, arith}
use Rattle.std.proofs.lemmas.Bool.Decides.{nat_tests}
use Rattle.std.proofs.lemmas.List.{get_or-drop, take_all}
use Rattle.refusals.specs.Refusals.{IsRefusedAt, one_place, refused_nowhere}
use Rattle.refusals.specs.Told.{IsUnless, told_number}
use Rattle.refusals.specs.Machines.{after, after-front, IsStuck, refused_where_stuck, one_meaning}
use Rattle.mode6_frame.specs.declared.items.Item.{Item}
use Rattle.mode6_frame.specs.declared.items.ItemFault.{ItemFault}
use Rattle.mode6_frame.specs.declared.items.ItemFault.TheVariants.{At, NoMemory}
use Rattle.mode6_frame.specs.Items.{comma, Slot, Blank, IsItemText, IsDue}
use Rattle.mode6_frame.specs.ItemReader.{ItemState, Within, Quoting, item_reader, as_read, part, IsEnded, IsSlotRead, IsUnclosedBefore, IsUnclosedSlot, IsToldAt}
use Rattle.mode6_frame.proofs.ItemLemmas.{reads_items, after-slot, after-quoting, items-as_read}

-- the front of a text leads to where its slots so far are closed
abbrev pub IsClosedAt : List ℕ → ℕ → List Item → Type 0
IsClosedAt text at items = after item_reader (take at text) (Within [] (Blank [])) ≡ Some (Within items (Blank []))

-- and the part behind it leads on
after-part : (text : List ℕ) (at end : ℕ) (items : List Item) (octets : List ℕ) (s : ItemState) → IsClosedAt text at items → at ≤ end → part text at end ≡ octets
    → after item_reader octets (Within items (Blank [])) ≡ Some s → after item_reader (take end text) (Within [] (Blank [])) ≡ Some s
after-part text at end items octets s closed below is leads =
    let reach : end ≡ at + (end - at) = omega arith in
    ap (λ n. after item_reader (take n text) (Within [] (Blank []))) reach
    ∙ ap (λ xs. after item_reader xs (Within [] (Blank []))) (take-add at (end - at) text ∙ ap (λ xs. take at text ++ xs) is)
    ∙ after-front item_reader (take at text) octets (Within [] (Blank [])) (Within items (Blank [])) closed
    ∙ leads

-- the front up to the slot's end leads to the slot
after-read : (text : List ℕ) (at end : ℕ) (items_before items : List Item) → IsClosedAt text at items_before → (read : IsSlotRead text at end items_before items)
    → after item_reader (take end text) (Within [] (Blank [])) ≡ Some (Within items_before (as_read read.slot))
after-read text at end items_before items closed read =
    after-part text at end items_before _ _ closed read.begun read.spelled (after-slot read.slot items_before read.is_slot)

-- a text that ends with the slot has these items
pub IsItemText-slot : (text : List ℕ) (at end : ℕ) (items_before items : List Item) → IsClosedAt text at items_before → IsSlotRead text at end items_before items
    → end ≡ length text → IsItemText text items
IsItemText-slot text at end items_before items closed read ends =
    let whole : take end text ≡ text = take_all end text (omega arith) in
    reads_items.sound text (Within items_before (as_read read.slot)) items
    (ap (λ xs. after item_reader xs (Within [] (Blank []))) (sym whole) ∙ after-read text at end items_before items closed read)
    (ap (λ here. Some (items_before ++ here)) (items-as_read read.slot) ∙ ap Some (sym read.here))

-- an octet that is no comma
not_comma : (octet : ℕ) → ¬ (octet ≡ comma) → (octet == comma) ≡ false
not_comma octet is_not = grind (arith, nat_tests)

-- what is left is refused where it begins with anything but a comma
IsStuck-slot : (items : List Item) (slot : Slot) (xs : List ℕ) → 0 < length xs → IsEnded slot xs → ¬ (slice_index xs 0 ≡ comma) → IsStuck item_reader (Within items slot) xs
IsStuck-slot items slot [] long ended is_not = absurd (omega arith)
IsStuck-slot items slot (octet ∷ xs) long ended is_not = rw (ended.1 items, ended.0, not_comma octet is_not) refl

-- the first octet of what is left
first-drop : (text : List ℕ) (end : ℕ) → slice_index (drop end text) 0 ≡ slice_index text end
first-drop text end =
    let same : end + 0 ≡ end = omega arith in
    get_or-drop end text 0 0 ∙ ap (slice_index text) same

-- a text that goes on after the slot with anything but a comma is refused there
pub IsRefusedAt-slot : (text : List ℕ) (at end : ℕ) (items_before items : List Item) → IsClosedAt text at items_before → IsSlotRead text at end items_before items
    → end < length text → ¬ (slice_index text end ≡ comma) → IsRefusedAt IsItemText text end
IsRefusedAt-slot text at end items_before items closed read more is_not =
    refused_where_stuck item_reader (Within [] (Blank [])) IsItemText reads_items text end (Within items_before (as_read read.slot)) read.within
    (after-read text at end items_before items closed read)
    (IsStuck-slot items_before (as_read read.slot) (drop end text) (omega (arith, length-drop end text)) read.ended (λ is. is_not (sym (first-drop text end) ∙ is)))

-- within quotes what is left is refused where it ends, or begins with an octet that may not come
IsStuck-quoting : (items : List Item) (before name left right value xs : List ℕ) → IsUnclosedBefore xs → IsStuck item_reader (Quoting items before name left right value) xs
IsStuck-quoting items before name left right value [] unclosed = refl
IsStuck-quoting items before name left right value (octet ∷ xs) unclosed = rw (unclosed.0, unclosed.1) refl

-- a text is refused where nothing closes the quotes of a value
IsRefusedAt-unclosed : (text : List ℕ) (at end : ℕ) (items : List Item) → IsClosedAt text at items → IsUnclosedSlot text at end → IsRefusedAt IsItemText text end
IsRefusedAt-unclosed text at end items closed slot =
    refused_where_stuck item_reader (Within [] (Blank [])) IsItemText reads_items text end (Quoting items slot.before slot.name slot.left slot.right slot.value) slot.within
    (after-part text at end items _ _ closed slot.begun slot.spelled (after-quoting slot.before slot.name slot.left slot.right slot.value items slot.is_slot))
    (IsStuck-quoting items slot.before slot.name slot.left slot.right slot.value (drop end text) slot.unclosed)

-- so the fault of such a slot is due
pub IsDue-unclosed : (text : List ℕ) (at : ℕ) (items : List Item) (fault : ItemFault) → IsClosedAt text at items → IsToldAt (IsUnclosedSlot text at) fault → IsDue text fault
IsDue-unclosed text at items (At place) closed (octets, slot, told) = (octets, IsRefusedAt-unclosed text at octets items closed slot, told)
IsDue-unclosed text at items NoMemory closed is = tt

-- a fault that is due leaves no items but where memory was wanting
pub IsUnless-due : (text : List ℕ) (items : List Item) (fault : ItemFault) → IsDue text fault → IsItemText text items → IsUnless {V = List Item} NoMemory (Err fault) (Ok items)
IsUnless-due text items (At place) (octets, refused, told) is = absurd (refused_nowhere IsItemText text items octets is refused)
IsUnless-due text items NoMemory due is = inr refl

-- and tells the place, but where memory was wanting
pub IsUnless-refused : (text : List ℕ) (octets : ℕ) (fault : ItemFault) → IsDue text fault → IsRefusedAt IsItemText text octets → IsUnless {V = List Item} NoMemory (Err fault) (Err (At (told_number octets)))
IsUnless-refused text octets (At place) (here, refused, told) is = inl (ap (λ n. Err (At n)) (told ∙ ap told_number (one_place IsItemText text here octets refused is)))
IsUnless-refused text octets NoMemory due is = inr refl

-- a text has one list of items at most
pub IsItemText-one : (text : List ℕ) (items others : List Item) → IsItemText text items → IsItemText text others → items ≡ others
IsItemText-one text items others one other = one_meaning item_reader (Within [] (Blank [])) IsItemText reads_items text items others one other

-- a text of one octet
take-one : (xs : List ℕ) (octet : ℕ) → 0 < length xs → slice_index xs 0 ≡ octet → take 1 xs ≡ octet ∷ []
take-one [] octet long is = absurd (omega arith)
take-one (x ∷ xs) octet long is = ap (λ y. y ∷ []) is

-- a comma closes the slot
pub IsClosedAt-comma : (text : List ℕ) (at end : ℕ) (items_before items : List Item) → IsClosedAt text at items_before → IsSlotRead text at end items_before items
    → end < length text → slice_index text end ≡ comma → IsClosedAt text (end + 1) items
IsClosedAt-comma text at end items_before items closed read more is =
    let one = take-one (drop end text) comma (omega (arith, length-drop end text)) (first-drop text end ∙ is) in
    ap (λ xs. after item_reader xs (Within [] (Blank []))) (take-add end 1 text ∙ ap (λ xs. take end text ++ xs) one)
    ∙ after-front item_reader (take end text) (comma ∷ []) (Within [] (Blank [])) (Within items_before (as_read read.slot)) (after-read text at end items_before items closed read)
    ∙ ap (λ here. Some (Within (items_before ++ here) (Blank []))) (items-as_read read.slot)
    ∙ ap (λ all. Some (Within all (Blank []))) (sym read.here)
