-- The reader of items reads exactly the texts of items.
use Rattle.std.proofs.Common.{◌≡◌, ℕ, ◌==◌, ◌⊎◌, inl, inr, Bool, true, false, cond, List, [], ◌∷◌, ◌++◌, Option, Some, None, IfSome, refl, sym, ap, subst, ◌∙◌, append_assoc, length-append, arith}
use Rattle.std.proofs.lemmas.List.{append-nil, same_from_push}
use Rattle.std.proofs.lemmas.Bool.{cases_Bool, and_parts}
use Rattle.std.proofs.lemmas.Bool.Decides.{nat_tests}
use Rattle.std.specs.List.{AllByRecursion, list_all}
use Rattle.std.specs.Option.{option_and_then}
use Rattle.refusals.specs.Machines.{Reads, after, after-front}
use Rattle.mode6_frame.specs.declared.items.Item.{Item}
use Rattle.mode6_frame.specs.Items.{comma, equals, quote, is_white, is_name_octet, is_quoted_octet, is_bare_octet, AreWhite, AreNameOctets, IsTrimmed, Quoted, Bare, IsValueText, Slot, Blank, Named, Valued, IsSlot, slot_octets, slot_items, closed_octets, items_of, IsItemText}
use Rattle.mode6_frame.specs.ItemReader.{ItemState, Within, Quoting, items_in, white_behind, next_of_name, next_visible, next_state, item_reader, as_read}
use Rattle.mode6_frame.proofs.WrittenLemmas.{AllByRecursion-append, AllByRecursion-parts, closed_octets-append, items_of-append, white_behind-slot}

-- what holds of all of a list and of one more
AllByRecursion-push : {X : Type 0} (P : X → Type 0) (xs : List X) (x : X) → AllByRecursion P xs → P x → AllByRecursion P (xs ++ x ∷ [])
AllByRecursion-push P xs x all one = AllByRecursion-append P xs (x ∷ []) all (one, tt)

-- the octets of the open slot
abbrev open_octets : ItemState → List ℕ
open_octets (Within items slot) = slot_octets slot
open_octets (Quoting items before name left right value) = before ++ name ++ left ++ (equals ∷ right) ++ quote ∷ value

-- its parts have the octets that they may have
abbrev IsOpen : ItemState → Type 0
IsOpen (Within items slot) = IsSlot slot
IsOpen (Quoting items before name left right value) = IsSlot (Valued before name left right (Quoted value) [])

-- the items of the closed slots
abbrev closed_items : ItemState → List Item
closed_items (Within items slot) = items
closed_items (Quoting items before name left right value) = items

-- a front that leads to a state: closed slots, and then the octets of the open one
record Stands (front : List ℕ) (s : ItemState) : Type 0 where
  closed : List Slot
  closed_slots : AllByRecursion IsSlot closed
  is_open : IsOpen s
  spelled : front ≡ closed_octets closed ++ open_octets s
  named : closed_items s ≡ items_of closed

-- a comma closes the open slot
Stands-comma : (front : List ℕ) (items : List Item) (slot : Slot) → Stands front (Within items slot)
    → Stands (front ++ comma ∷ []) (Within (items ++ slot_items slot) (Blank []))
Stands-comma front items slot at = record {
  closed = at.closed ++ slot ∷ [];
  closed_slots = AllByRecursion-push IsSlot at.closed slot at.closed_slots at.is_open;
  is_open = tt;
  spelled = ap (λ xs. xs ++ comma ∷ []) at.spelled
      ∙ append_assoc (closed_octets at.closed) (slot_octets slot) (comma ∷ [])
      ∙ sym (closed_octets-append at.closed (slot ∷ []))
      ∙ sym (append-nil (closed_octets (at.closed ++ slot ∷ [])));
  named = ap (λ xs. xs ++ slot_items slot) at.named
      ∙ ap (λ xs. items_of at.closed ++ xs) (sym (append-nil (slot_items slot)))
      ∙ sym (items_of-append at.closed (slot ∷ []));
}

-- an octet lengthens the open slot
record Lengthens (s : ItemState) (octet : ℕ) (t : ItemState) : Type 0 where
  is_open : IsOpen t
  longer : open_octets t ≡ open_octets s ++ octet ∷ []
  same : closed_items t ≡ closed_items s

-- then the longer front leads there
Stands-longer : (front : List ℕ) (s : ItemState) (octet : ℕ) (t : ItemState) → Stands front s → Lengthens s octet t → Stands (front ++ octet ∷ []) t
Stands-longer front s octet t at more = record {
  closed = at.closed;
  closed_slots = at.closed_slots;
  is_open = more.is_open;
  spelled = ap (λ xs. xs ++ octet ∷ []) at.spelled
      ∙ append_assoc (closed_octets at.closed) (open_octets s) (octet ∷ [])
      ∙ ap (λ xs. closed_octets at.closed ++ xs) (sym more.longer);
  named = more.same ∙ at.named;
}

-- a fact of what a choice gives, from both choices
IfSome-cond : {A : Type 0} (b : Bool) (first second : Option A) (P : A → Type 0) → (b ≡ true → IfSome first P) → (b ≡ false → IfSome second P) → IfSome (cond b first second) P
IfSome-cond true first second P by_true by_false = by_true refl
IfSome-cond false first second P by_true by_false = by_false refl

-- an octet that is a comma, an equals sign or a quotation mark
is_same : (octet other : ℕ) → (octet == other) ≡ true → octet ≡ other
is_same octet other e = grind (arith, nat_tests)

-- octets of which each passes a test
pub all_pass : (test : ℕ → Bool) (xs : List ℕ) → list_all test xs ≡ true → AllByRecursion (λ x. test x ≡ true) xs
all_pass test [] passes = tt
all_pass test (x ∷ xs) passes =
    let both = and_parts (test x) (list_all test xs) passes in
    (both.0, all_pass test xs both.1)

-- and the other way
pass_all : (test : ℕ → Bool) (xs : List ℕ) → AllByRecursion (λ x. test x ≡ true) xs → list_all test xs ≡ true
pass_all test [] all = refl
pass_all test (x ∷ xs) all = rw (all.0, pass_all test xs all.1) refl

-- one octet that is not white space has none at its ends
IsTrimmed-one : (octet : ℕ) → is_white octet ≡ false → IsTrimmed (octet ∷ [])
IsTrimmed-one octet visible = record {
  begins = λ first behind is.
      let same : octet ≡ first = cc in
      subst (λ x. is_white x ≡ false) same visible;
  ends = λ before last is. subst (λ x. is_white x ≡ false) (same_from_push [] before octet last is).1 visible;
}

-- octets that begin as a trimmed text does and end with one that is not white space
IsTrimmed-longer : (first : ℕ) (value behind : List ℕ) (octet : ℕ) → IsTrimmed (first ∷ value) → is_white octet ≡ false → IsTrimmed ((first ∷ value) ++ behind ++ octet ∷ [])
IsTrimmed-longer first value behind octet trimmed visible = record {
  begins = λ head tail is.
      let same : first ≡ head = cc in
      subst (λ x. is_white x ≡ false) same (trimmed.begins first value refl);
  ends = λ before last is. subst (λ x. is_white x ≡ false) (same_from_push ((first ∷ value) ++ behind) before octet last is).1 visible;
}

-- where a visible octet leads, the open slot is longer by it
Lengthens-visible : (items : List Item) (slot : Slot) (octet : ℕ) → IsSlot slot → is_white octet ≡ false → IfSome (next_visible items slot octet) (Lengthens (Within items slot) octet)
Lengthens-visible items (Blank white) octet is visible =
    IfSome-cond (is_name_octet octet) _ _ (Lengthens (Within items (Blank white)) octet)
    (λ named. record { is_open = (is, omega arith, (named, tt), tt); longer = append-nil (white ++ octet ∷ []); same = refl })
    (λ _. tt)
Lengthens-visible items (Named before name behind) octet is visible =
    IfSome-cond (octet == equals) _ _ (Lengthens (Within items (Named before name behind)) octet)
    (λ equal. record {
      is_open = (is.0, is.1, is.2, is.3, tt, (tt, record { begins = λ first rest wrong. absurd cc; ends = λ front last wrong. absurd (nothing_ends front last wrong) }), tt);
      longer = append-nil ((((before ++ name) ++ behind) ++ equals ∷ []) ++ []) ∙ append-nil (((before ++ name) ++ behind) ++ equals ∷ [])
          ∙ ap (λ x. ((before ++ name) ++ behind) ++ x ∷ []) (sym (is_same octet equals equal));
      same = refl;
    })
    (λ _. in_name behind is)
  where
    nothing_ends : (front : List ℕ) (last : ℕ) → ¬ ([] ≡ front ++ last ∷ [])
    nothing_ends [] last wrong = absurd cc
    nothing_ends (x ∷ front) last wrong = absurd cc

    in_name : (white : List ℕ) → IsSlot (Named before name white) → IfSome (next_of_name items before name white octet) (Lengthens (Within items (Named before name white)) octet)
    in_name [] are = IfSome-cond (is_name_octet octet) _ _ (Lengthens (Within items (Named before name [])) octet)
        (λ named. record {
          is_open = (are.0, omega (arith, length-append name (octet ∷ [])), AllByRecursion-push _ name octet are.2 named, tt);
          longer = append-nil (before ++ (name ++ octet ∷ [])) ∙ sym (append_assoc before name (octet ∷ [])) ∙ ap (λ xs. xs ++ octet ∷ []) (sym (append-nil (before ++ name)));
          same = refl;
        })
        (λ _. tt)
    in_name (space ∷ white) are = tt
Lengthens-visible items (Valued before name left right (Quoted value) behind) octet is visible = tt
Lengthens-visible items (Valued before name left right (Bare []) behind) octet is visible =
    let front = (before ++ name) ++ left in
    let spaced : front ++ equals ∷ (right ++ behind) ≡ ((front ++ equals ∷ right) ++ []) ++ behind =
    sym (append_assoc front (equals ∷ right) behind) ∙ ap (λ xs. xs ++ behind) (sym (append-nil (front ++ equals ∷ right))) in
    let white = AllByRecursion-append _ right behind is.4 is.6 in
    IfSome-cond (octet == quote) _ _ (Lengthens (Within items (Valued before name left right (Bare []) behind)) octet)
    (λ quoted. record {
      is_open = (is.0, is.1, is.2, is.3, white, tt, tt);
      longer = ap (λ xs. xs ++ quote ∷ []) spaced ∙ ap (λ x. (((front ++ equals ∷ right) ++ []) ++ behind) ++ x ∷ []) (sym (is_same octet quote quoted));
      same = refl;
    })
    (λ _. IfSome-cond (is_bare_octet octet) _ _ (Lengthens (Within items (Valued before name left right (Bare []) behind)) octet)
    (λ bare. record {
      is_open = (is.0, is.1, is.2, is.3, white, ((bare, tt), IsTrimmed-one octet visible), tt);
      longer = append-nil ((front ++ equals ∷ (right ++ behind)) ++ octet ∷ []) ∙ ap (λ xs. xs ++ octet ∷ []) spaced;
      same = refl;
    })
    (λ _. tt))
Lengthens-visible items (Valued before name left right (Bare (first ∷ value)) behind) octet is visible =
    let front = ((before ++ name) ++ left) ++ equals ∷ right in
    let more = (first ∷ value) ++ behind ++ octet ∷ [] in
    IfSome-cond (list_all is_bare_octet behind) _ _ (Lengthens (Within items (Valued before name left right (Bare (first ∷ value)) behind)) octet)
    (λ all. IfSome-cond (is_bare_octet octet) _ _ (Lengthens (Within items (Valued before name left right (Bare (first ∷ value)) behind)) octet)
    (λ bare. record {
      is_open = (
        is.0,
        is.1,
        is.2,
        is.3,
        is.4,
        (
          AllByRecursion-push _ ((first ∷ value) ++ behind) octet (AllByRecursion-append _ (first ∷ value) behind is.5.0 (all_pass is_bare_octet behind all)) bare,
          IsTrimmed-longer first value behind octet is.5.1 visible,
        ),
        tt,
      );
      longer = append-nil (front ++ more)
          ∙ sym (append_assoc front ((first ∷ value) ++ behind) (octet ∷ []))
          ∙ ap (λ xs. xs ++ octet ∷ []) (sym (append_assoc front (first ∷ value) behind));
      same = refl;
    })
    (λ _. tt))
    (λ _. tt)

-- so it is with white space
Lengthens-white : (items : List Item) (slot : Slot) (octet : ℕ) → IsSlot slot → is_white octet ≡ true → Lengthens (Within items slot) octet (Within items (white_behind (octet ∷ []) slot))
Lengthens-white items slot octet is white =
    let longer = white_behind-slot (octet ∷ []) slot (white, tt) is in
    record { is_open = longer.0; longer = longer.1; same = refl }

-- where an octet leads, the longer front stands
Stands-next : (front : List ℕ) (s : ItemState) (octet : ℕ) → Stands front s → IfSome (next_state s octet) (λ t. Stands (front ++ octet ∷ []) t)
Stands-next front (Within items slot) octet at =
    let P : ItemState → Type 0 = λ t. Stands (front ++ octet ∷ []) t in
    IfSome-cond (octet == comma) _ _ P
    (λ is. subst (λ x. Stands (front ++ x ∷ []) (Within (items ++ slot_items slot) (Blank []))) (sym (is_same octet comma is)) (Stands-comma front items slot at))
    (λ _. IfSome-cond (is_white octet) _ _ P
    (λ white. Stands-longer front (Within items slot) octet _ at (Lengthens-white items slot octet at.is_open white))
    (λ visible. onward (next_visible items slot octet) (Lengthens-visible items slot octet at.is_open visible)))
  where
    onward : (o : Option ItemState) → IfSome o (Lengthens (Within items slot) octet) → IfSome o (λ t. Stands (front ++ octet ∷ []) t)
    onward None _ = tt
    onward (Some t) more = Stands-longer front (Within items slot) octet t at more
Stands-next front (Quoting items before name left right value) octet at =
    let P : ItemState → Type 0 = λ t. Stands (front ++ octet ∷ []) t in
    let quoting = Quoting items before name left right value in
    let is = at.is_open in
    let opened = ((before ++ name) ++ left) ++ equals ∷ right in
    IfSome-cond (octet == quote) _ _ P
    (λ closes. Stands-longer front quoting octet (Within items (Valued before name left right (Quoted value) [])) at (record {
      is_open = is;
      longer = append-nil (opened ++ (quote ∷ value ++ quote ∷ []))
          ∙ sym (append_assoc opened (quote ∷ value) (quote ∷ []))
          ∙ ap (λ x. (opened ++ quote ∷ value) ++ x ∷ []) (sym (is_same octet quote closes));
      same = refl;
    }))
    (λ _. IfSome-cond (is_quoted_octet octet) _ _ P
    (λ goes_on. Stands-longer front quoting octet (Quoting items before name left right (value ++ octet ∷ [])) at (record {
      is_open = (is.0, is.1, is.2, is.3, is.4, AllByRecursion-push _ value octet is.5 goes_on, tt);
      longer = sym (append_assoc opened (quote ∷ value) (octet ∷ []));
      same = refl;
    }))
    (λ _. tt))

-- the same for the octets of a text
Stands-after : (text front : List ℕ) (s : ItemState) → Stands front s → IfSome (after item_reader text s) (λ t. Stands (front ++ text) t)
Stands-after [] front s at =
    let P : List ℕ → Type 0 = λ xs. Stands xs s in
    subst P (sym (append-nil front)) at
Stands-after (octet ∷ text) front s at =
    let onward = elim (next_state s octet) as (λ o. IfSome o (λ t. Stands (front ++ octet ∷ []) t) → IfSome (option_and_then (after item_reader text) o) (λ t. Stands (front ++ octet ∷ text) t)) [
      | None ↦ λ _. tt
      | Some t ↦ λ longer. subst (λ xs. IfSome (after item_reader text t) (λ u. Stands xs u)) (append_assoc front (octet ∷ []) text) (Stands-after text (front ++ octet ∷ []) t longer)
    ] in
    onward (Stands-next front s octet at)

-- a front that leads to where a text may end is a text of the items there
IsItemText-stands : (front : List ℕ) (s : ItemState) (items : List Item) → Stands front s → items_in s ≡ Some items → IsItemText front items
IsItemText-stands front (Within closed slot) items at value =
    let here : closed ++ slot_items slot ≡ items = cc in
    record {
      closed = at.closed;
      last = slot;
      closed_slots = at.closed_slots;
      last_slot = at.is_open;
      spelled = at.spelled;
      named = sym here ∙ ap (λ xs. xs ++ slot_items slot) at.named;
    }
IsItemText-stands front (Quoting closed before name left right its) items at value = absurd cc

-- white space stands behind the open slot
white_behind-none : (slot : Slot) → white_behind [] slot ≡ slot
white_behind-none (Blank white) = ap Blank (append-nil white)
white_behind-none (Named before name behind) = ap (Named before name) (append-nil behind)
white_behind-none (Valued before name left right value behind) = ap (Valued before name left right value) (append-nil behind)

-- and more of it behind that
white_behind-more : (slot : Slot) (xs ys : List ℕ) → white_behind ys (white_behind xs slot) ≡ white_behind (xs ++ ys) slot
white_behind-more (Blank white) xs ys = ap Blank (append_assoc white xs ys)
white_behind-more (Named before name behind) xs ys = ap (Named before name) (append_assoc behind xs ys)
white_behind-more (Valued before name left right value behind) xs ys = ap (Valued before name left right value) (append_assoc behind xs ys)

-- white space is no comma
white_not_comma : (octet : ℕ) → is_white octet ≡ true → (octet == comma) ≡ false
white_not_comma octet is = grind (arith, nat_tests)

-- white space leads on within the open slot
after-white : (white : List ℕ) (items : List Item) (slot : Slot) → AreWhite white → after item_reader white (Within items slot) ≡ Some (Within items (white_behind white slot))
after-white [] items slot are = ap (λ s. Some (Within items s)) (sym (white_behind-none slot))
after-white (octet ∷ white) items slot are =
    let not_comma = white_not_comma octet are.0 in
    let first : next_state (Within items slot) octet ≡ Some (Within items (white_behind (octet ∷ []) slot)) = rw (not_comma, are.0) refl in
    ap (option_and_then (after item_reader white)) first
    ∙ after-white white items (white_behind (octet ∷ []) slot) are.1
    ∙ ap (λ s. Some (Within items s)) (white_behind-more slot (octet ∷ []) white)

-- what an octet of a name is not
name_octet_is_none : (octet : ℕ) → is_name_octet octet ≡ true → ((octet == comma) ≡ false) × (is_white octet ≡ false) × ((octet == equals) ≡ false)
name_octet_is_none octet is = (grind (arith, nat_tests), grind (arith, nat_tests), grind (arith, nat_tests))

-- octets of a name lengthen it
after-more_name : (more : List ℕ) (items : List Item) (before name : List ℕ) → AreNameOctets more
    → after item_reader more (Within items (Named before name [])) ≡ Some (Within items (Named before (name ++ more) []))
after-more_name [] items before name are = ap (λ xs. Some (Within items (Named before xs []))) (sym (append-nil name))
after-more_name (octet ∷ more) items before name are =
    let none = name_octet_is_none octet are.0 in
    let first : next_state (Within items (Named before name [])) octet ≡ Some (Within items (Named before (name ++ octet ∷ []) [])) = rw (are.0, none.0, none.1, none.2) refl in
    ap (option_and_then (after item_reader more)) first
    ∙ after-more_name more items before (name ++ octet ∷ []) are.1
    ∙ ap (λ xs. Some (Within items (Named before xs []))) (append_assoc name (octet ∷ []) more)

-- white space, a whole name and white space lead past the name
after-named : (before name behind : List ℕ) (items : List Item) → IsSlot (Named before name behind)
    → after item_reader (slot_octets (Named before name behind)) (Within items (Blank [])) ≡ Some (Within items (Named before name behind))
after-named before [] behind items is = absurd (omega (arith, is.1))
after-named before (octet ∷ name) behind items is =
    let none = name_octet_is_none octet is.2.0 in
    let first : next_state (Within items (Blank before)) octet ≡ Some (Within items (Named before (octet ∷ []) [])) = rw (is.2.0, none.0, none.1) refl in
    let named : after item_reader (octet ∷ name) (Within items (Blank before)) ≡ Some (Within items (Named before (octet ∷ name) [])) =
    ap (option_and_then (after item_reader name)) first ∙ after-more_name name items before (octet ∷ []) is.2.1 in
    after-front item_reader (before ++ octet ∷ name) behind (Within items (Blank [])) (Within items (Named before (octet ∷ name) []))
    (after-front item_reader before (octet ∷ name) (Within items (Blank [])) (Within items (Blank before)) (after-white before items (Blank []) is.0) ∙ named)
    ∙ after-white behind items (Named before (octet ∷ name) []) is.3

-- an equals sign and white space behind a name lead to where a value may begin
pub after-equals : (before name left right : List ℕ) (items : List Item) → IsSlot (Named before name left) → AreWhite right
    → after item_reader (slot_octets (Named before name left) ++ equals ∷ right) (Within items (Blank [])) ≡ Some (Within items (Valued before name left [] (Bare []) right))
after-equals before name left right items is are =
    after-front item_reader (slot_octets (Named before name left)) (equals ∷ right) (Within items (Blank [])) (Within items (Named before name left)) (after-named before name left items is)
    ∙ after-white right items (Valued before name left [] (Bare []) []) are

-- what an octet of a value in quotes is not
quoted_octet_is_none : (octet : ℕ) → is_quoted_octet octet ≡ true → (octet == quote) ≡ false
quoted_octet_is_none octet is = grind (arith, nat_tests)

-- octets within quotes lengthen the value
after-more_quoted : (more : List ℕ) (items : List Item) (before name left right value : List ℕ) → IsValueText (Quoted more)
    → after item_reader more (Quoting items before name left right value) ≡ Some (Quoting items before name left right (value ++ more))
after-more_quoted [] items before name left right value are = ap (λ xs. Some (Quoting items before name left right xs)) (sym (append-nil value))
after-more_quoted (octet ∷ more) items before name left right value are =
    let none = quoted_octet_is_none octet are.0 in
    let first : next_state (Quoting items before name left right value) octet ≡ Some (Quoting items before name left right (value ++ octet ∷ [])) = rw (are.0, none) refl in
    ap (option_and_then (after item_reader more)) first
    ∙ after-more_quoted more items before name left right (value ++ octet ∷ []) are.1
    ∙ ap (λ xs. Some (Quoting items before name left right xs)) (append_assoc value (octet ∷ []) more)

-- a name, an equals sign, a quotation mark and octets lead within the quotes
pub after-quoting : (before name left right value : List ℕ) (items : List Item) → IsSlot (Valued before name left right (Quoted value) [])
    → after item_reader (before ++ name ++ left ++ (equals ∷ right) ++ quote ∷ value) (Within items (Blank [])) ≡ Some (Quoting items before name left right value)
after-quoting before name left right value items is =
    after-front item_reader (slot_octets (Named before name left) ++ equals ∷ right) (quote ∷ value) (Within items (Blank [])) (Within items (Valued before name left [] (Bare []) right))
    (after-equals before name left right items (is.0, is.1, is.2, is.3) is.4)
    ∙ after-more_quoted value items before name left right [] is.5

-- what an octet of a bare value is not
bare_octet_is_none : (octet : ℕ) → is_bare_octet octet ≡ true → ((octet == comma) ≡ false) × ((octet == quote) ≡ false)
bare_octet_is_none octet is = (grind (arith, nat_tests), grind (arith, nat_tests))

-- where octets of a bare value lead: some of them are its, and the white space that came last is behind it
record AfterBare (items : List Item) (before name left right : List ℕ) (first : ℕ) (value behind inner : List ℕ) : Type 0 where
  longer : List ℕ
  white : List ℕ
  leads : after item_reader inner (Within items (Valued before name left right (Bare (first ∷ value)) behind)) ≡ Some (Within items (Valued before name left right (Bare (first ∷ longer)) white))
  bare : list_all is_bare_octet white ≡ true
  same : longer ++ white ≡ value ++ behind ++ inner

-- a visible octet goes on with a bare value, and takes the white space before it
next-bare : (items : List Item) (before name left right : List ℕ) (first : ℕ) (value behind : List ℕ) (octet : ℕ) → list_all is_bare_octet behind ≡ true → is_bare_octet octet ≡ true → is_white octet ≡ false
    → next_state (Within items (Valued before name left right (Bare (first ∷ value)) behind)) octet ≡ Some (Within items (Valued before name left right (Bare (first ∷ (value ++ behind ++ octet ∷ []))) []))
next-bare items before name left right first value behind octet all bare visible =
    let none = bare_octet_is_none octet bare in
    rw (bare, all, none.0, visible) refl

-- octets of a bare value lead on within it
after-bare : (items : List Item) (before name left right : List ℕ) (first : ℕ) (value behind inner : List ℕ) → list_all is_bare_octet behind ≡ true
    → AllByRecursion (λ octet. is_bare_octet octet ≡ true) inner → AfterBare items before name left right first value behind inner
after-bare items before name left right first value behind [] all are =
    record { longer = value; white = behind; leads = refl; bare = all; same = sym (append-nil (value ++ behind)) }
after-bare items before name left right first value behind (octet ∷ inner) all are =
    by (cases_Bool (is_white octet)) (λ longer white spaced. after-bare items before name left right first longer white inner spaced are.1)
  where
    by : (is_white octet ≡ true) ⊎ (is_white octet ≡ false)
        → ((longer white : List ℕ) → list_all is_bare_octet white ≡ true → AfterBare items before name left right first longer white inner)
        → AfterBare items before name left right first value behind (octet ∷ inner)
    by (inl white) onward =
        let spaced : list_all is_bare_octet (behind ++ octet ∷ []) ≡ true =
        pass_all is_bare_octet (behind ++ octet ∷ []) (AllByRecursion-push _ behind octet (all_pass is_bare_octet behind all) are.0) in
        let rest = onward value (behind ++ octet ∷ []) spaced in
        let here : next_state (Within items (Valued before name left right (Bare (first ∷ value)) behind)) octet ≡ Some (Within items (Valued before name left right (Bare (first ∷ value)) (behind ++ octet ∷ []))) =
        rw (white_not_comma octet white, white) refl in
        record {
          longer = rest.longer;
          white = rest.white;
          leads = ap (option_and_then (after item_reader inner)) here ∙ rest.leads;
          bare = rest.bare;
          same = rest.same ∙ ap (λ xs. xs ++ inner) (sym (append_assoc value behind (octet ∷ []))) ∙ append_assoc (value ++ behind) (octet ∷ []) inner;
        }
    by (inr visible) onward =
        let rest = onward (value ++ behind ++ octet ∷ []) [] refl in
        record {
          longer = rest.longer;
          white = rest.white;
          leads = ap (option_and_then (after item_reader inner)) (next-bare items before name left right first value behind octet all are.0 visible) ∙ rest.leads;
          bare = rest.bare;
          same = rest.same ∙ ap (λ xs. xs ++ inner) (append-nil (value ++ behind ++ octet ∷ [])) ∙ append_assoc (value ++ behind) (octet ∷ []) inner;
        }

-- a list is empty, or it has a last element
last_of : (xs : List ℕ) → (xs ≡ []) ⊎ ((inner : List ℕ) × (last : ℕ) × (xs ≡ inner ++ last ∷ []))
last_of [] = inl refl
last_of (x ∷ xs) = by (last_of xs)
  where
    by : (xs ≡ []) ⊎ ((inner : List ℕ) × (last : ℕ) × (xs ≡ inner ++ last ∷ [])) → (x ∷ xs ≡ []) ⊎ ((inner : List ℕ) × (last : ℕ) × (x ∷ xs ≡ inner ++ last ∷ []))
    by (inl none) = inr ([], x, ap (λ ys. x ∷ ys) none)
    by (inr (inner, last, is)) = inr (x ∷ inner, last, ap (λ ys. x ∷ ys) is)

-- what follows the first octet of a bare value leads past all of it
after-value : (items : List Item) (before name left right : List ℕ) (first : ℕ) (value : List ℕ) → IsValueText (Bare (first ∷ value))
    → after item_reader value (Within items (Valued before name left right (Bare (first ∷ [])) [])) ≡ Some (Within items (Valued before name left right (Bare (first ∷ value)) []))
after-value items before name left right first value is = by (last_of value)
  where
    by : (value ≡ []) ⊎ ((inner : List ℕ) × (last : ℕ) × (value ≡ inner ++ last ∷ []))
        → after item_reader value (Within items (Valued before name left right (Bare (first ∷ [])) [])) ≡ Some (Within items (Valued before name left right (Bare (first ∷ value)) []))
    by (inl none) = subst (λ xs. after item_reader xs (Within items (Valued before name left right (Bare (first ∷ [])) [])) ≡ Some (Within items (Valued before name left right (Bare (first ∷ xs)) []))) (sym none) refl
    by (inr (inner, last, ends)) =
        let bare : AllByRecursion (λ octet. is_bare_octet octet ≡ true) (inner ++ last ∷ []) = subst (AllByRecursion (λ octet. is_bare_octet octet ≡ true)) ends is.0.1 in
        let parts = AllByRecursion-parts _ inner (last ∷ []) bare in
        let visible : is_white last ≡ false = is.1.ends (first ∷ inner) last (ap (λ xs. first ∷ xs) ends) in
        let within = after-bare items before name left right first [] [] inner refl parts.0 in
        let whole : within.longer ++ within.white ++ last ∷ [] ≡ value = ap (λ xs. xs ++ last ∷ []) within.same ∙ sym ends in
        ap (λ xs. after item_reader xs (Within items (Valued before name left right (Bare (first ∷ [])) []))) ends
        ∙ after-front item_reader inner (last ∷ []) (Within items (Valued before name left right (Bare (first ∷ [])) [])) _ within.leads
        ∙ ap (option_and_then (after item_reader [])) (next-bare items before name left right first within.longer within.white last within.bare parts.1.0 visible)
        ∙ ap (λ xs. Some (Within items (Valued before name left right (Bare (first ∷ xs)) []))) whole

-- a slot leads to it
pub after-slot : (slot : Slot) (items : List Item) → IsSlot slot → after item_reader (slot_octets slot) (Within items (Blank [])) ≡ Some (Within items (as_read slot))
after-slot (Blank white) items is = after-white white items (Blank []) is
after-slot (Named before name behind) items is = after-named before name behind items is
after-slot (Valued before name left right (Quoted value) behind) items is =
    let opened = ((before ++ name) ++ left) ++ equals ∷ right in
    let quoting = after-quoting before name left right value items (is.0, is.1, is.2, is.3, is.4, is.5, tt) in
    let closed : after item_reader (opened ++ (quote ∷ value ++ quote ∷ [])) (Within items (Blank [])) ≡ Some (Within items (Valued before name left right (Quoted value) [])) =
    ap (λ xs. after item_reader xs (Within items (Blank []))) (sym (append_assoc opened (quote ∷ value) (quote ∷ [])))
    ∙ after-front item_reader (opened ++ quote ∷ value) (quote ∷ []) (Within items (Blank [])) (Quoting items before name left right value) quoting in
    after-front item_reader (opened ++ (quote ∷ value ++ quote ∷ [])) behind (Within items (Blank [])) (Within items (Valued before name left right (Quoted value) [])) closed
    ∙ after-white behind items (Valued before name left right (Quoted value) []) is.6
after-slot (Valued before name left right (Bare []) behind) items is =
    let opened = ((before ++ name) ++ left) ++ equals ∷ right in
    ap (λ xs. after item_reader (xs ++ behind) (Within items (Blank []))) (append-nil opened)
    ∙ after-front item_reader opened behind (Within items (Blank [])) (Within items (Valued before name left [] (Bare []) right)) (after-equals before name left right items (is.0, is.1, is.2, is.3) is.4)
    ∙ after-white behind items (Valued before name left [] (Bare []) right) is.6
after-slot (Valued before name left right (Bare (first ∷ value)) behind) items is =
    let opened = ((before ++ name) ++ left) ++ equals ∷ right in
    let visible : is_white first ≡ false = is.5.1.begins first value refl in
    let none = bare_octet_is_none first is.5.0.0 in
    let begun : next_state (Within items (Valued before name left [] (Bare []) right)) first ≡ Some (Within items (Valued before name left right (Bare (first ∷ [])) [])) =
    rw (is.5.0.0, none.0, visible, none.1) refl in
    let whole = after-front item_reader opened (first ∷ value) (Within items (Blank [])) (Within items (Valued before name left [] (Bare []) right)) (after-equals before name left right items (is.0, is.1, is.2, is.3) is.4)
    ∙ ap (option_and_then (after item_reader value)) begun
    ∙ after-value items before name left right first value is.5 in
    after-front item_reader (opened ++ first ∷ value) behind (Within items (Blank [])) (Within items (Valued before name left right (Bare (first ∷ value)) [])) whole
    ∙ after-white behind items (Valued before name left right (Bare (first ∷ value)) []) is.6

-- the slot has the items of what is read of it
pub items-as_read : (slot : Slot) → slot_items (as_read slot) ≡ slot_items slot
items-as_read (Blank white) = refl
items-as_read (Named before name behind) = refl
items-as_read (Valued before name left right (Quoted value) behind) = refl
items-as_read (Valued before name left right (Bare []) behind) = refl
items-as_read (Valued before name left right (Bare (first ∷ value)) behind) = refl

-- closed slots lead to their items
after-closed : (closed : List Slot) (items : List Item) → AllByRecursion IsSlot closed
    → after item_reader (closed_octets closed) (Within items (Blank [])) ≡ Some (Within (items ++ items_of closed) (Blank []))
after-closed [] items are = ap (λ xs. Some (Within xs (Blank []))) (sym (append-nil items))
after-closed (slot ∷ closed) items are =
    after-front item_reader (slot_octets slot) (comma ∷ closed_octets closed) (Within items (Blank [])) (Within items (as_read slot)) (after-slot slot items are.0)
    ∙ ap (λ here. after item_reader (closed_octets closed) (Within (items ++ here) (Blank []))) (items-as_read slot)
    ∙ after-closed closed (items ++ slot_items slot) are.1
    ∙ ap (λ xs. Some (Within xs (Blank []))) (append_assoc items (slot_items slot) (items_of closed))

-- the reader of items reads exactly the texts of items
pub reads_items : Reads item_reader (Within [] (Blank [])) IsItemText
reads_items = record {
  sound = sound;
  complete = complete;
  goes_on = λ text s leads. goes_on s;
}
  where
    start : Stands [] (Within [] (Blank []))
    start = record { closed = []; closed_slots = tt; is_open = tt; spelled = refl; named = refl }

    sound : (text : List ℕ) (s : ItemState) (items : List Item) → after item_reader text (Within [] (Blank [])) ≡ Some s → items_in s ≡ Some items → IsItemText text items
    sound text s items leads value =
        let P : Option ItemState → Type 0 = λ o. IfSome o (λ t. Stands text t) in
        IsItemText-stands text s items (subst P leads (Stands-after text [] (Within [] (Blank [])) start)) value

    complete : (text : List ℕ) (items : List Item) → IsItemText text items → (s : ItemState) × (after item_reader text (Within [] (Blank [])) ≡ Some s) × (items_in s ≡ Some items)
    complete text items is = (
      Within (items_of is.closed) (as_read is.last),
      ap (λ xs. after item_reader xs (Within [] (Blank []))) is.spelled
          ∙ after-front item_reader (closed_octets is.closed) (slot_octets is.last) (Within [] (Blank [])) (Within (items_of is.closed) (Blank [])) (after-closed is.closed [] is.closed_slots)
          ∙ after-slot is.last (items_of is.closed) is.last_slot,
      ap (λ here. Some (items_of is.closed ++ here)) (items-as_read is.last) ∙ ap Some (sym is.named),
    )

    goes_on : (s : ItemState) → (more : List ℕ) × (t : ItemState) × (m : List Item) × (after item_reader more s ≡ Some t) × (items_in t ≡ Some m)
    goes_on (Within items slot) = ([], Within items slot, items ++ slot_items slot, refl, refl)
    goes_on (Quoting items before name left right value) =
        (quote ∷ [], Within items (Valued before name left right (Quoted value) []), items ++ slot_items (Valued before name left right (Quoted value) []), refl, refl)
