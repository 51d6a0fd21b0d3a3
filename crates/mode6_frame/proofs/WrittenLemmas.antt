-- Texts of items put together, and the items that are read back from what is written of them.
use Rattle.std.proofs.Common.{◌≡◌, ℕ, ◌<◌, ◌==◌, ◌⊎◌, inl, inr, Bool, true, false, not, ◌||◌, if◌then◌else◌, arith, List, [], ◌∷◌, ◌++◌, length, Option, Some, None, codes, refl, sym, ap, subst, ◌∙◌, append_assoc}
use Rattle.std.proofs.lemmas.Bool.{cases_Bool, both_ways, not-false, and_cases, or_parts}
use Rattle.std.proofs.lemmas.Bool.Decides.{nat_tests}
use Rattle.std.proofs.lemmas.List.{append-nil}
use Rattle.std.specs.List.{AllByRecursion, list_any, join_by}
use Rattle.mode6_frame.specs.declared.items.Item.{Item}
use Rattle.mode6_frame.specs.Items.{comma, equals, is_white, AreWhite, AreNameOctets, is_quoted_octet, is_bare_octet, IsTrimmed, Quoted, Bare, IsValueText, value_octets, value_in, Slot, Blank, Named, Valued, IsSlot, slot_octets, slot_items, closed_octets, items_of, IsItemText}
use Rattle.mode6_frame.specs.ItemReader.{white_behind}
use Rattle.mode6_frame.specs.ItemTexts.{is_number_list, has_quotes, written_value, value_part, item_text, plain_text, IsWritableValue, IsWritable}

-- what holds of two lists holds of both end to end
pub AllByRecursion-append : {X : Type 0} (P : X → Type 0) (xs ys : List X) → AllByRecursion P xs → AllByRecursion P ys → AllByRecursion P (xs ++ ys)
AllByRecursion-append P [] ys front rest = rest
AllByRecursion-append P (x ∷ xs) ys front rest = (front.0, AllByRecursion-append P xs ys front.1 rest)

-- and each way back
pub AllByRecursion-parts : {X : Type 0} (P : X → Type 0) (xs ys : List X) → AllByRecursion P (xs ++ ys) → AllByRecursion P xs × AllByRecursion P ys
AllByRecursion-parts P [] ys all = (tt, all)
AllByRecursion-parts P (x ∷ xs) ys all =
    let rest = AllByRecursion-parts P xs ys all.1 in
    ((all.0, rest.0), rest.1)

-- closed slots end to end
pub closed_octets-append : (closed more : List Slot) → closed_octets (closed ++ more) ≡ closed_octets closed ++ closed_octets more
closed_octets-append [] more = refl
closed_octets-append (slot ∷ closed) more =
    ap (λ rest. slot_octets slot ++ comma ∷ rest) (closed_octets-append closed more)
    ∙ sym (append_assoc (slot_octets slot) (comma ∷ closed_octets closed) (closed_octets more))

-- and their items
pub items_of-append : (closed more : List Slot) → items_of (closed ++ more) ≡ items_of closed ++ items_of more
items_of-append [] more = refl
items_of-append (slot ∷ closed) more =
    ap (λ rest. slot_items slot ++ rest) (items_of-append closed more) ∙ sym (append_assoc (slot_items slot) (items_of closed) (items_of more))

-- four lists end to end, however they are put together
append-four : {X : Type 0} (a b c d : List X) → (a ++ b) ++ (c ++ d) ≡ (a ++ (b ++ c)) ++ d
append-four a b c d = append_assoc a b (c ++ d) ∙ ap (λ rest. a ++ rest) (sym (append_assoc b c d)) ∙ sym (append_assoc a (b ++ c) d)

-- two texts with a comma between are a text of the items of both
pub IsItemText-comma : (front text : List ℕ) (first items : List Item) → IsItemText front first → IsItemText text items → IsItemText (front ++ comma ∷ text) (first ++ items)
IsItemText-comma front text first items one other = record {
  closed = one.closed ++ one.last ∷ other.closed;
  last = other.last;
  closed_slots = AllByRecursion-append IsSlot one.closed (one.last ∷ other.closed) one.closed_slots (one.last_slot, other.closed_slots);
  last_slot = other.last_slot;
  spelled = (λ i. one.spelled i ++ comma ∷ other.spelled i)
      ∙ append-four (closed_octets one.closed) (slot_octets one.last) (comma ∷ closed_octets other.closed) (slot_octets other.last)
      ∙ ap (λ front. front ++ slot_octets other.last) (sym (closed_octets-append one.closed (one.last ∷ other.closed)));
  named = (λ i. one.named i ++ other.named i)
      ∙ append-four (items_of one.closed) (slot_items one.last) (items_of other.closed) (slot_items other.last)
      ∙ ap (λ front. front ++ slot_items other.last) (sym (items_of-append one.closed (one.last ∷ other.closed)));
}

-- a slot with more white space before it
abbrev white_before : List ℕ → Slot → Slot
white_before more (Blank white) = Blank (more ++ white)
white_before more (Named before name behind) = Named (more ++ before) name behind
white_before more (Valued before name left right value behind) = Valued (more ++ before) name left right value behind

-- a list before the front of two is before both
before-append : {X : Type 0} (more xs ys front : List X) → front ≡ more ++ xs → front ++ ys ≡ more ++ (xs ++ ys)
before-append more xs ys front is = ap (λ zs. zs ++ ys) is ∙ append_assoc more xs ys

-- its octets
octets-white_before : (more : List ℕ) (slot : Slot) → slot_octets (white_before more slot) ≡ more ++ slot_octets slot
octets-white_before more (Blank white) = refl
octets-white_before more (Named before name behind) = before-append more _ behind _ (append_assoc more before name)
octets-white_before more (Valued before name left right value behind) =
    before-append more _ behind _ (before-append more _ (value_octets value) _ (before-append more _ (equals ∷ right) _ (before-append more _ left _ (append_assoc more before name))))

-- it is a slot
IsSlot-white_before : (more : List ℕ) (slot : Slot) → AreWhite more → IsSlot slot → IsSlot (white_before more slot)
IsSlot-white_before more (Blank white) are is = AllByRecursion-append _ more white are is
IsSlot-white_before more (Named before name behind) are is = (AllByRecursion-append _ more before are is.0, is.1, is.2, is.3)
IsSlot-white_before more (Valued before name left right value behind) are is = (AllByRecursion-append _ more before are is.0, is.1, is.2, is.3, is.4, is.5, is.6)

-- and has the same items
items-white_before : (more : List ℕ) (slot : Slot) → slot_items (white_before more slot) ≡ slot_items slot
items-white_before more (Blank white) = refl
items-white_before more (Named before name behind) = refl
items-white_before more (Valued before name left right value behind) = refl

-- slots with white space before them are a text of the same items
white_before-slots : (more : List ℕ) (closed : List Slot) (last : Slot) → AreWhite more → AllByRecursion IsSlot closed → IsSlot last
    → IsItemText (more ++ (closed_octets closed ++ slot_octets last)) (items_of closed ++ slot_items last)
white_before-slots more [] last are closed_slots last_slot = record {
  closed = [];
  last = white_before more last;
  closed_slots = tt;
  last_slot = IsSlot-white_before more last are last_slot;
  spelled = sym (octets-white_before more last);
  named = sym (items-white_before more last);
}
white_before-slots more (slot ∷ closed) last are closed_slots last_slot =
    let octets : more ++ (slot_octets slot ++ comma ∷ closed_octets closed) ≡ slot_octets (white_before more slot) ++ comma ∷ closed_octets closed =
    sym (before-append more (slot_octets slot) (comma ∷ closed_octets closed) (slot_octets (white_before more slot)) (octets-white_before more slot)) in
    record {
      closed = white_before more slot ∷ closed;
      last = last;
      closed_slots = (IsSlot-white_before more slot are closed_slots.0, closed_slots.1);
      last_slot = last_slot;
      spelled = sym (append_assoc more (slot_octets slot ++ comma ∷ closed_octets closed) (slot_octets last)) ∙ ap (λ front. front ++ slot_octets last) octets;
      named = ap (λ here. (here ++ items_of closed) ++ slot_items last) (sym (items-white_before more slot));
    }

-- a text with white space before it is a text of the same items
pub IsItemText-white_before : (more text : List ℕ) (items : List Item) → AreWhite more → IsItemText text items → IsItemText (more ++ text) items
IsItemText-white_before more text items are is =
    let longer = white_before-slots more is.closed is.last are is.closed_slots is.last_slot in
    record {
      closed = longer.closed;
      last = longer.last;
      closed_slots = longer.closed_slots;
      last_slot = longer.last_slot;
      spelled = ap (λ xs. more ++ xs) is.spelled ∙ longer.spelled;
      named = is.named ∙ longer.named;
    }

-- white space is a text of no items
pub IsItemText-blank : (white : List ℕ) → AreWhite white → IsItemText white []
IsItemText-blank white are = record { closed = []; last = Blank white; closed_slots = tt; last_slot = are; spelled = refl; named = refl }

-- a slot with more white space behind it is one, with these octets and the same items
pub white_behind-slot : (more : List ℕ) (slot : Slot) → AreWhite more → IsSlot slot
    → IsSlot (white_behind more slot) × (slot_octets (white_behind more slot) ≡ slot_octets slot ++ more) × (slot_items (white_behind more slot) ≡ slot_items slot)
white_behind-slot more (Blank white) are is = (AllByRecursion-append _ white more is are, refl, refl)
white_behind-slot more (Named before name behind) are is =
    ((is.0, is.1, is.2, AllByRecursion-append _ behind more is.3 are), sym (append_assoc (before ++ name) behind more), refl)
white_behind-slot more (Valued before name left right value behind) are is = (
  (is.0, is.1, is.2, is.3, is.4, is.5, AllByRecursion-append _ behind more is.6 are),
  sym (append_assoc ((((before ++ name) ++ left) ++ equals ∷ right) ++ value_octets value) behind more),
  refl,
)

-- a text with white space behind it is a text of the same items
pub IsItemText-white_behind : (text more : List ℕ) (items : List Item) → AreWhite more → IsItemText text items → IsItemText (text ++ more) items
IsItemText-white_behind text more items are is =
    let longer = white_behind-slot more is.last are is.last_slot in
    record {
      closed = is.closed;
      last = white_behind more is.last;
      closed_slots = is.closed_slots;
      last_slot = longer.0;
      spelled = ap (λ xs. xs ++ more) is.spelled ∙ append_assoc (closed_octets is.closed) (slot_octets is.last) more ∙ ap (λ xs. closed_octets is.closed ++ xs) (sym longer.1);
      named = is.named ∙ ap (λ here. items_of is.closed ++ here) (sym longer.2);
    }

-- carriage return and line feed are white space
white_line_end : AreWhite (codes "\r\n")
white_line_end = (refl, (refl, tt))

-- two lines of items, the first with a comma before its end, are a text of the items of both
pub IsItemText-lines : (front text : List ℕ) (first items : List Item) → IsItemText front first → IsItemText text items
    → IsItemText ((front ++ codes ",\r\n") ++ text) (first ++ items)
IsItemText-lines front text first items one other =
    subst (λ (octets : List ℕ). IsItemText octets (first ++ items)) (sym (append_assoc front (codes ",\r\n") text))
    (IsItemText-comma front (codes "\r\n" ++ text) first items one (IsItemText-white_before (codes "\r\n") text items white_line_end other))

-- a line of items with a comma before its end is a text of them
pub IsItemText-more : (text : List ℕ) (items : List Item) → IsItemText text items → IsItemText (text ++ codes ",\r\n") items
IsItemText-more text items is =
    subst (λ (all : List Item). IsItemText (text ++ codes ",\r\n") all) (append-nil items)
    (IsItemText-comma text (codes "\r\n") items [] is (IsItemText-blank (codes "\r\n") white_line_end))

-- and so is one without
pub IsItemText-line : (text : List ℕ) (items : List Item) → IsItemText text items → IsItemText (text ++ codes "\r\n") items
IsItemText-line text items is = IsItemText-white_behind text (codes "\r\n") items white_line_end is

-- a value is that which is written of it
value_in-written : (name value : List ℕ) → value_in (written_value name value) ≡ value
value_in-written name value = by (has_quotes name value) refl
  where
    by : (quoted : Bool) → has_quotes name value ≡ quoted → value_in (written_value name value) ≡ value
    by true is = rw is refl
    by false is = rw is refl

-- octets without white space are trimmed
IsTrimmed-visible : (octets : List ℕ) → AllByRecursion (λ octet. is_white octet ≡ false) octets → IsTrimmed octets
IsTrimmed-visible octets all = record {
  begins = λ octet behind is. (subst (AllByRecursion (λ x. is_white x ≡ false)) is all).0;
  ends = λ before octet is. (AllByRecursion-parts (λ x. is_white x ≡ false) before (octet ∷ []) (subst (AllByRecursion (λ x. is_white x ≡ false)) is all)).1.0;
}

-- octets of a value that has neither space nor comma
visible_octets : (value : List ℕ) → AllByRecursion (λ octet. is_quoted_octet octet ≡ true) value → list_any (λ octet. octet == 32 || octet == comma) value ≡ false
    → AllByRecursion (λ octet. is_bare_octet octet ≡ true) value × AllByRecursion (λ octet. is_white octet ≡ false) value
visible_octets [] all none = (tt, tt)
visible_octets (octet ∷ value) all none =
    let apart = or_parts (octet == 32 || octet == comma) (list_any (λ x. x == 32 || x == comma) value) none in
    let rest = visible_octets value all.1 apart.1 in
    ((is_bare octet all.0 apart.0, rest.0), (is_visible octet all.0 apart.0, rest.1))
  where
    is_bare : (x : ℕ) → is_quoted_octet x ≡ true → (x == 32 || x == comma) ≡ false → is_bare_octet x ≡ true
    is_bare x quoted other = grind (arith, nat_tests)

    is_visible : (x : ℕ) → is_quoted_octet x ≡ true → (x == 32 || x == comma) ≡ false → is_white x ≡ false
    is_visible x quoted other = grind (arith, nat_tests)

-- a value of octets that may stand in quotes is writable, but for a list of numbers
pub IsWritableValue-quotable : (name value : List ℕ) → is_number_list name ≡ false → AllByRecursion (λ octet. is_quoted_octet octet ≡ true) value → IsWritableValue name (Some value)
IsWritableValue-quotable name value other all = (all, by (cases_Bool (has_quotes name value)))
  where
    Written : Bool → Type 0
    Written quoted = IsValueText (if quoted then Quoted value else Bare value)

    gap : Bool
    gap = list_any (λ octet. octet == 32 || octet == comma) value

    no_gap : (gap ≡ false) ⊎ (not (is_number_list name) ≡ false) → gap ≡ false
    no_gap (inl none) = none
    no_gap (inr numbers) = absurd (both_ways (is_number_list name) other (not-false (is_number_list name) numbers))

    by : (has_quotes name value ≡ true) ⊎ (has_quotes name value ≡ false) → IsValueText (written_value name value)
    by (inl is) = subst Written (sym is) all
    by (inr is) =
        let visible = visible_octets value all (no_gap (and_cases gap (not (is_number_list name)) is)) in
        subst Written (sym is) (visible.0, IsTrimmed-visible value visible.1)

-- the slot that an item is written as
abbrev written_slot : List ℕ → Option (List ℕ) → Slot
written_slot name None = Named [] name []
written_slot name (Some value) = Valued [] name [] [] (written_value name value) []

-- it has the octets of the item's text
written_slot-octets : (name : List ℕ) (value : Option (List ℕ)) → name ++ value_part name value ≡ slot_octets (written_slot name value)
written_slot-octets name None = refl
written_slot-octets name (Some value) =
    let octets = value_octets (written_value name value) in
    sym (append_assoc name (equals ∷ []) octets)
    ∙ ap (λ front. (front ++ equals ∷ []) ++ octets) (sym (append-nil name))
    ∙ sym (append-nil (((name ++ []) ++ equals ∷ []) ++ octets))

-- and the item
written_slot-items : (name : List ℕ) (value : Option (List ℕ)) → record { name = name; value = value } ∷ [] ≡ slot_items (written_slot name value)
written_slot-items name None = refl
written_slot-items name (Some value) = ap (λ its. record { name = name; value = Some its } ∷ []) (sym (value_in-written name value))

-- it is a slot where the item is writable
IsSlot-written : (name : List ℕ) (value : Option (List ℕ)) → 0 < length name → AreNameOctets name → IsWritableValue name value → IsSlot (written_slot name value)
IsSlot-written name None some are is = (tt, some, are, tt)
IsSlot-written name (Some value) some are is = (tt, some, are, tt, tt, is.1, tt)

-- the text of a writable item is a text of it
pub IsItemText-item : (item : Item) → IsWritable item → IsItemText (item_text item) (item ∷ [])
IsItemText-item item is = record {
  closed = [];
  last = written_slot item.name item.value;
  closed_slots = tt;
  last_slot = IsSlot-written item.name item.value is.some is.name is.value;
  spelled = written_slot-octets item.name item.value;
  named = written_slot-items item.name item.value;
}

-- writable items with a comma and a space between are a text of them
IsItemText-joined_from : (item : Item) (items : List Item) → IsWritable item → AllByRecursion IsWritable items
    → IsItemText (join_by item_text (codes ", ") (item ∷ items)) (item ∷ items)
IsItemText-joined_from item [] one all =
    subst (λ (octets : List ℕ). IsItemText octets (item ∷ [])) (sym (append-nil (item_text item))) (IsItemText-item item one)
IsItemText-joined_from item (next ∷ items) one all =
    let rest = join_by item_text (codes ", ") (next ∷ items) in
    let spaced = IsItemText-white_before (codes " ") rest (next ∷ items) (refl, tt) (IsItemText-joined_from next items all.0 all.1) in
    IsItemText-comma (item_text item) (codes " " ++ rest) (item ∷ []) (next ∷ items) (IsItemText-item item one) spaced

-- the same for any number of them
pub IsItemText-joined : (items : List Item) → AllByRecursion IsWritable items → IsItemText (join_by item_text (codes ", ") items) items
IsItemText-joined [] all = IsItemText-blank [] tt
IsItemText-joined (item ∷ items) all = IsItemText-joined_from item items all.0 all.1

-- the text of writable items is a text of them
pub IsItemText-plain : (items : List Item) → AllByRecursion IsWritable items → IsItemText (plain_text items) items
IsItemText-plain [] all = IsItemText-blank [] tt
IsItemText-plain (item ∷ items) all = IsItemText-line _ _ (IsItemText-joined (item ∷ items) all)
