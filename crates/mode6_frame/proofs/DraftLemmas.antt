-- An answer under way: what one item more makes of what is still to come.
use Rattle.std.proofs.Common.{◌≡◌, ℕ, ◌+◌, ◌<◌, ◌≤◌, true, false, List, [], ◌∷◌, ◌++◌, length, refl, sym, ap, ◌∙◌, append_assoc, length-append, arith}
use Rattle.std.proofs.lemmas.Bool.{cond-true, cond-false, le-leb, lt-leb}
use Rattle.std.proofs.lemmas.List.{append-nil}
use Rattle.std.proofs.lemmas.List.Sums.{sum_by-cons}
use Rattle.std.specs.List.{sum_by}
use Rattle.std.specs.Prelude.{codes}
use Rattle.mode6_frame.specs.declared.items.Item.{Item}
use Rattle.mode6_frame.specs.declared.message.Head.{Head}
use Rattle.mode6_frame.specs.declared.message.TheConstants.{MAX_BODY}
use Rattle.mode6_frame.specs.Cuts.{Part, part_frame, TAG_ITEM_LEN, tag_item, width_of, has_room, in_first, runs_after, laid, octets_in}
use Rattle.mode6_frame.specs.Drafts.{spaced, laid_after, parts_after, grams_of}
use Rattle.mode6_frame.specs.Frames.{spelled_frame}
use Rattle.mode6_frame.specs.ItemTexts.{item_text, plain_text}
use Rattle.mode6_frame.proofs.CutLemmas.{runs-some, some-in_first, length-widths}
use Rattle.mode6_frame.proofs.TagLemmas.{length-tag_item}

-- an item as it stands in a body behind another
abbrev pub one_spaced : Item → List ℕ
one_spaced item = codes ", " ++ item_text item

-- a part of an answer that more follow
abbrev pub more_part : ℕ → List ℕ → Part
more_part offset body = record { offset = offset; more = true; body = body }

-- the last part of an answer
abbrev pub last_part : ℕ → List ℕ → Part
last_part offset body = record { offset = offset; more = false; body = body }

-- an item in the first run stands behind what its body has already
laid_after-in_first : (tag offset : ℕ) (front : List ℕ) (item : Item) (runs : List (List Item)) → 0 < length runs
    → laid_after tag offset front (in_first item runs) ≡ laid_after tag offset (front ++ one_spaced item) runs
laid_after-in_first tag offset front item [] some = absurd (omega arith)
laid_after-in_first tag offset front item (run ∷ []) some =
    ap (λ xs. last_part offset (xs ++ codes "\r\n") ∷ []) (sym (append_assoc front (one_spaced item) (spaced run)))
laid_after-in_first tag offset front item (run ∷ next ∷ runs) some =
    ap (λ xs. more_part offset (xs ++ codes ",\r\n") ∷ laid tag (offset + length (xs ++ codes ",\r\n")) (next ∷ runs))
    (sym (append_assoc front (one_spaced item) (spaced run)))

-- a body begins with the tag
laid_after-tag_item : (tag offset : ℕ) (runs : List (List Item)) → laid_after tag offset (tag_item tag) runs ≡ laid tag offset runs
laid_after-tag_item tag offset [] = refl
laid_after-tag_item tag offset (run ∷ []) = refl
laid_after-tag_item tag offset (run ∷ next ∷ runs) = refl

-- a body to which no item comes any more
laid_after-next : (tag offset : ℕ) (front : List ℕ) (runs : List (List Item)) → 0 < length runs
    → laid_after tag offset front ([] ∷ runs) ≡ more_part offset (front ++ codes ",\r\n") ∷ laid tag (offset + (length front + 3)) runs
laid_after-next tag offset front [] some = absurd (omega arith)
laid_after-next tag offset front (run ∷ runs) some =
    ap (λ xs. more_part offset (xs ++ codes ",\r\n") ∷ laid tag (offset + length (xs ++ codes ",\r\n")) (run ∷ runs)) (append-nil front)
    ∙ ap (λ n. more_part offset (front ++ codes ",\r\n") ∷ laid tag (offset + n) (run ∷ runs)) (length-append front (codes ",\r\n"))

-- the parts at the beginning
pub parts_after-begun : (tag : ℕ) (items : List Item) → parts_after tag 0 (tag_item tag) items ≡ laid tag 0 (runs_after TAG_ITEM_LEN items)
unfolding parts_after
parts_after-begun tag items =
    laid_after-tag_item tag 0 (runs_after (length (tag_item tag)) items) ∙ ap (λ n. laid tag 0 (runs_after n items)) (length-tag_item tag)

-- the part where no items are left
pub parts_after-ended : (tag offset : ℕ) (front : List ℕ) → parts_after tag offset front [] ≡ last_part offset (front ++ codes "\r\n") ∷ []
unfolding parts_after
parts_after-ended tag offset front = ap (λ xs. last_part offset (xs ++ codes "\r\n") ∷ []) (append-nil front)

-- the datagrams where no items are left
pub grams-ended : (head : Head) (grams : List (List ℕ)) (tag offset : ℕ) (front : List ℕ)
    → grams ++ grams_of head (parts_after tag offset front []) ≡ grams ++ spelled_frame (part_frame head (last_part offset (front ++ codes "\r\n"))) ∷ []
grams-ended head grams tag offset front = ap (λ parts. grams ++ grams_of head parts) (parts_after-ended tag offset front)

-- an item for which there is room
pub parts_after-room : (tag offset : ℕ) (front longer : List ℕ) (item : Item) (items : List Item) → longer ≡ front ++ one_spaced item
    → length front + width_of item + 3 ≤ MAX_BODY → parts_after tag offset longer items ≡ parts_after tag offset front (item ∷ items)
unfolding parts_after
parts_after-room tag offset front longer item items is room =
    let len : length longer ≡ length front + width_of item = omega (arith, ap length is, length-append front (one_spaced item)) in
    sym (ap (laid_after tag offset front) (cond-true (has_room (length front + width_of item)) _ _ (le-leb _ _ room))
    ∙ laid_after-in_first tag offset front item (runs_after (length front + width_of item) items) (runs-some (length front + width_of item) items)
    ∙ (λ i. laid_after tag offset (sym is i) (runs_after (sym len i) items)))

-- an item for which there is none
pub parts_after-full : (tag offset next : ℕ) (front longer : List ℕ) (item : Item) (items : List Item)
    → next ≡ offset + (length front + 3) → longer ≡ tag_item tag ++ one_spaced item → MAX_BODY < length front + width_of item + 3
    → parts_after tag offset front (item ∷ items) ≡ more_part offset (front ++ codes ",\r\n") ∷ parts_after tag next longer items
unfolding parts_after
parts_after-full tag offset next front longer item items place is full =
    let len : length longer ≡ TAG_ITEM_LEN + width_of item =
    omega (arith, ap length is, length-append (tag_item tag) (one_spaced item), length-tag_item tag) in
    let runs = runs_after (TAG_ITEM_LEN + width_of item) items in
    let some = runs-some (TAG_ITEM_LEN + width_of item) items in
    ap (laid_after tag offset front) (cond-false (has_room (length front + width_of item)) _ _ (lt-leb _ _ full))
    ∙ laid_after-next tag offset front (in_first item runs) (some-in_first item runs)
    ∙ ap (λ parts. more_part offset (front ++ codes ",\r\n") ∷ parts)
    (ap (λ n. laid tag n (in_first item runs)) (sym place)
    ∙ sym (laid_after-tag_item tag next (in_first item runs))
    ∙ laid_after-in_first tag next (tag_item tag) item runs some
    ∙ (λ i. laid_after tag next (sym is i) (runs_after (sym len i) items)))

-- the datagrams after such an item
pub grams-full : (head : Head) (grams more : List (List ℕ)) (tag offset next : ℕ) (front longer : List ℕ) (item : Item) (items : List Item)
    → more ≡ grams ++ spelled_frame (part_frame head (more_part offset (front ++ codes ",\r\n"))) ∷ []
    → next ≡ offset + (length front + 3) → longer ≡ tag_item tag ++ one_spaced item → MAX_BODY < length front + width_of item + 3
    → more ++ grams_of head (parts_after tag next longer items) ≡ grams ++ grams_of head (parts_after tag offset front (item ∷ items))
grams-full head grams more tag offset next front longer item items gained place is full =
    let gram = spelled_frame (part_frame head (more_part offset (front ++ codes ",\r\n"))) in
    let rest = grams_of head (parts_after tag next longer items) in
    ap (λ front. front ++ rest) gained
    ∙ append_assoc grams (gram ∷ []) rest
    ∙ ap (λ parts. grams ++ grams_of head parts) (sym (parts_after-full tag offset next front longer item items place is full))

-- the octets after such an item
pub octets-full : (tag offset next : ℕ) (front longer : List ℕ) (item : Item) (items : List Item)
    → next ≡ offset + (length front + 3) → longer ≡ tag_item tag ++ one_spaced item → MAX_BODY < length front + width_of item + 3
    → next + octets_in (parts_after tag next longer items) ≡ offset + octets_in (parts_after tag offset front (item ∷ items))
octets-full tag offset next front longer item items place is full =
    let parts = parts_after tag next longer items in
    let part = more_part offset (front ++ codes ",\r\n") in
    let all = ap octets_in (parts_after-full tag offset next front longer item items place is full) in
    omega (arith, place, all, sum_by-cons (λ (part : Part). length part.body) part parts, length-append front (codes ",\r\n"))

-- the items of a plain text that are still to come
pub plain-room : (front : List ℕ) (items all : List Item) → (front ++ spaced items) ++ codes "\r\n" ≡ plain_text all
    → length front + sum_by width_of items + 2 ≡ length (plain_text all)
plain-room front items all is =
    omega (arith, ap length is, length-append (front ++ spaced items) (codes "\r\n"), length-append front (spaced items), length-widths items)

-- one of them more
pub plain-step : (front longer : List ℕ) (item : Item) (items : List Item) → longer ≡ front ++ one_spaced item
    → (longer ++ spaced items) ++ codes "\r\n" ≡ (front ++ spaced (item ∷ items)) ++ codes "\r\n"
plain-step front longer item items is =
    ap (λ xs. (xs ++ spaced items) ++ codes "\r\n") is ∙ ap (λ xs. xs ++ codes "\r\n") (append_assoc front (one_spaced item) (spaced items))
