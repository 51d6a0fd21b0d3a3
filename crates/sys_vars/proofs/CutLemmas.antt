-- Items of few octets can be cut into datagrams.
use Rattle.std.proofs.Common.{◌≡◌, ◌≤◌, ◌+◌, ◌*◌, ℕ, Bool, true, false, List, [], ◌∷◌, ◌++◌, length, map, refl, sym, ◌∙◌, arith, length-append}
use Rattle.std.specs.Prelude.{nat_le, if◌then◌else◌, codes}
use Rattle.std.specs.List.{AllByRecursion, sum_by, flat_map}
use Rattle.std.proofs.lemmas.Bool.{leb-true}
use Rattle.std.proofs.lemmas.List.{length-map}
use Rattle.std.proofs.lemmas.List.Sums.{sum_by-cons}
use Rattle.hex.specs.Hex.{encode_with}
use Rattle.mode6_frame.specs.declared.cutting.TheConstants.{MAX_ITEM}
use Rattle.mode6_frame.specs.declared.items.Item.{Item}
use Rattle.mode6_frame.specs.declared.message.Head.{Head}
use Rattle.mode6_frame.specs.declared.message.TheConstants.{MAX_BODY}
use Rattle.mode6_frame.specs.Frames.{spelled_frame}
use Rattle.mode6_frame.specs.Cuts.{Part, tag_item, width_of, has_room, in_first, runs_after, part_body, laid, whole_part, parts_cut, octets_in, part_frame, datagrams, IsCuttable, TAG_ITEM_LEN}
use Rattle.mode6_frame.specs.ItemTexts.{item_text, plain_text}
use Rattle.sys_vars.specs.declared.asked.TheConstants.{MAX_NAMES}
use Rattle.sys_vars.specs.Variables.{IsShort}

-- how many octets items add to the parts that have them
abbrev width_in : List Item → ℕ
width_in items = sum_by width_of items

-- and all runs of items
abbrev width_in_all : List (List Item) → ℕ
width_in_all runs = sum_by width_in runs

-- the tag as an item has 23 octets
length-tag_item : (tag : ℕ) → length (tag_item tag) ≡ 23
unfolding tag_item encode_with
length-tag_item tag = refl

-- the items of a part have their widths
gaps-width : (run : List Item) → length (flat_map (λ item. codes ", " ++ item_text item) run) ≡ width_in run
gaps-width [] = refl
gaps-width (item ∷ run) =
    omega (arith, length-append (codes ", " ++ item_text item) (flat_map (λ x. codes ", " ++ item_text x) run), sum_by-cons width_of item run, gaps-width run)

-- the end of a part
abbrev end_of : Bool → List ℕ
end_of more = if more then codes ",\r\n" else codes "\r\n"

-- it has three octets at most
end-short : (more : Bool) → length (end_of more) ≤ 3
end-short true = omega arith
end-short false = omega arith

-- a part has at most 26 octets beside what its items add
part-short : (tag : ℕ) (more : Bool) (run : List Item) → length (part_body tag more run) ≤ 26 + width_in run
part-short tag more run =
    let gaps = flat_map (λ (item : Item). codes ", " ++ item_text item) run in
    omega (arith, length-tag_item tag, length-append (tag_item tag) gaps, length-append (tag_item tag ++ gaps) (end_of more), gaps-width run, end-short more)

-- an item put before the first run adds its width
in_first-width : (item : Item) (runs : List (List Item)) → width_in_all (in_first item runs) ≡ width_of item + width_in_all runs
in_first-width item [] = omega (arith, sum_by-cons width_in (item ∷ []) [], sum_by-cons width_of item [])
in_first-width item (run ∷ runs) =
    omega (arith, sum_by-cons width_in (item ∷ run) runs, sum_by-cons width_in run runs, sum_by-cons width_of item run)

-- and no run, where there is one
in_first-count : (item : Item) (runs : List (List Item)) → 1 ≤ length runs → length (in_first item runs) ≡ length runs
in_first-count item [] some = omega arith
in_first-count item (run ∷ runs) some = refl

-- what follows an item, whether it goes into the part under way or begins the next
abbrev runs_with : Item → List (List Item) → List (List Item) → Bool → List (List Item)
runs_with item same next room = if room then in_first item same else [] ∷ in_first item next

-- there is one run at least, and one more than items at most, if so it is of what follows
runs_with-count : (item : Item) (same next : List (List Item)) (room : Bool) (n m : ℕ) → m ≡ n + 1
    → (1 ≤ length same) × (length same ≤ n + 1) → (1 ≤ length next) × (length next ≤ n + 1)
    → (1 ≤ length (runs_with item same next room)) × (length (runs_with item same next room) ≤ m + 1)
runs_with-count item same next true n m more first second =
    (omega (arith, first.0, in_first-count item same first.0), omega (arith, first.1, in_first-count item same first.0, more))
runs_with-count item same next false n m more first second =
    (omega arith, omega (arith, second.1, in_first-count item next second.0, more))

-- and they have the width of the item more
runs_with-width : (item : Item) (same next : List (List Item)) (room : Bool) (width : ℕ) → width_in_all same ≡ width → width_in_all next ≡ width
    → width_in_all (runs_with item same next room) ≡ width_of item + width
runs_with-width item same next true width first second = omega (arith, in_first-width item same, first)
runs_with-width item same next false width first second = omega (arith, in_first-width item next, second, sum_by-cons width_in [] (in_first item next))

-- there is one run at least, and one more than items at most
runs_after-count : (used : ℕ) (items : List Item) → (1 ≤ length (runs_after used items)) × (length (runs_after used items) ≤ length items + 1)
runs_after-count used [] = (omega arith, omega arith)
runs_after-count used (item ∷ items) =
    runs_with-count item (runs_after (used + width_of item) items) (runs_after (TAG_ITEM_LEN + width_of item) items) (has_room (used + width_of item))
    (length items) (length (item ∷ items)) (omega arith)
    (runs_after-count (used + width_of item) items) (runs_after-count (TAG_ITEM_LEN + width_of item) items)

-- the runs have all items
runs_after-width : (used : ℕ) (items : List Item) → width_in_all (runs_after used items) ≡ width_in items
runs_after-width used [] = refl
runs_after-width used (item ∷ items) =
    runs_with-width item (runs_after (used + width_of item) items) (runs_after (TAG_ITEM_LEN + width_of item) items) (has_room (used + width_of item))
    (width_in items) (runs_after-width (used + width_of item) items) (runs_after-width (TAG_ITEM_LEN + width_of item) items)
    ∙ sym (sum_by-cons width_of item items)

-- parts laid out have at most 26 octets each beside what their items add
laid-short : (tag offset : ℕ) (runs : List (List Item)) → octets_in (laid tag offset runs) ≤ 26 * length runs + width_in_all runs
laid-short tag offset [] = omega arith
laid-short tag offset (run ∷ []) = omega (arith, part-short tag false run)
laid-short tag offset (run ∷ next ∷ runs) =
    let first : Part = record { offset = offset; more = true; body = part_body tag true run } in
    let behind = offset + length (part_body tag true run) in
    omega (arith, part-short tag true run, laid-short tag behind (next ∷ runs), sum_by-cons (λ (part : Part). length part.body) first (laid tag behind (next ∷ runs)), sum_by-cons width_in run (next ∷ runs))

-- where there is a run there is a part
laid-some : (tag offset : ℕ) (runs : List (List Item)) → 1 ≤ length runs → 1 ≤ length (laid tag offset runs)
laid-some tag offset [] some = omega (arith, some)
laid-some tag offset (run ∷ []) some = omega arith
laid-some tag offset (run ∷ next ∷ runs) some = omega arith

-- so that an answer has a datagram
pub datagrams-some : (head : Head) (tag : ℕ) (items : List Item) → 1 ≤ length (datagrams head tag items)
unfolding parts_cut
datagrams-some head tag items = by_size (nat_le (length (plain_text items)) MAX_BODY)
  where
    by_size : (fits : Bool) → 1 ≤ length (map (λ part. spelled_frame (part_frame head part)) (if fits then whole_part (plain_text items) ∷ [] else laid tag 0 (runs_after TAG_ITEM_LEN items)))
    by_size true = omega arith
    by_size false =
        let parts = laid tag 0 (runs_after TAG_ITEM_LEN items) in
        omega (arith, laid-some tag 0 (runs_after TAG_ITEM_LEN items) (runs_after-count TAG_ITEM_LEN items).0, length-map parts (λ (part : Part). spelled_frame (part_frame head part)))

-- items of few octets add few
width-short : (items : List Item) → AllByRecursion IsShort items → width_in items ≤ 252 * length items
width-short [] are = omega arith
width-short (item ∷ items) are =
    omega (arith, sum_by-cons width_of item items, are.0, width-short items are.1)

-- and fit each into a part
fit-part : (items : List Item) → AllByRecursion IsShort items → AllByRecursion (λ item. length (item_text item) ≤ MAX_ITEM) items
fit-part [] are = tt
fit-part (item ∷ items) are = (omega (arith, are.0), fit-part items are.1)

-- so that the items that one request can name can be cut
pub IsCuttable-short : (tag : ℕ) (items : List Item) → AllByRecursion IsShort items → length items ≤ MAX_NAMES → IsCuttable tag items
unfolding parts_cut
IsCuttable-short tag items are few = record { short = fit-part items are; placed = by_size (nat_le (length (plain_text items)) MAX_BODY) (leb-true (length (plain_text items)) MAX_BODY) }
  where
    by_size : (fits : Bool) → (fits ≡ true → length (plain_text items) ≤ MAX_BODY) → octets_in (if fits then whole_part (plain_text items) ∷ [] else laid tag 0 (runs_after TAG_ITEM_LEN items)) ≤ 65535
    by_size true small = omega (arith, small refl)
    by_size false small =
        omega (arith, laid-short tag 0 (runs_after TAG_ITEM_LEN items), (runs_after-count TAG_ITEM_LEN items).1, runs_after-width TAG_ITEM_LEN items, width-short items are, few)
