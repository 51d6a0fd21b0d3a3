-- The parts of an answer: where they lie, their tags and lengths, how many they are, and that their text is read back.
use Rattle.std.proofs.Common.{◌≡◌, ◌≢◌, ℕ, suc, ◌+◌, ◌-◌, ◌*◌, ◌/◌, ◌^◌, ◌<◌, ◌≤◌, Bool, true, false, List, [], ◌∷◌, ◌++◌, length, take, slice_index, map, Option, Some, None, refl, sym, ap, subst, ◌∙◌, append_assoc, length-append, arith}
use Rattle.std.proofs.lemmas.Bool.{cond_both, cond-true, cond-false, leb-true, leb-false, false≢true, false_from_ne_true}
use Rattle.std.proofs.lemmas.List.{append-nil, length-map, length-replicate}
use Rattle.std.proofs.lemmas.List.Sums.{sum_by-cons}
use Rattle.std.proofs.lemmas.Slice.Eq.{bytes_eq-Decides}
use Rattle.std.specs.List.{AllByRecursion, flat_map, sum_by}
use Rattle.std.specs.Prelude.{codes, bytes_eq, nat_le, if◌then◌else◌}
use Rattle.mode6_frame.specs.declared.items.Item.{Item}
use Rattle.mode6_frame.specs.declared.message.Head.{Head}
use Rattle.mode6_frame.specs.declared.message.TheConstants.{HEAD_LEN, MAX_BODY}
use Rattle.mode6_frame.specs.Cuts.{Part, part_frame, datagrams, TAG_ITEM_LEN, tag_item, tag_text, width_of, has_room, in_first, runs_after, part_body, laid, whole_part, parts_cut, octets_in, AreShort, IsCuttable, LieFrom, IsWithinPart, IsSurplus, AreGreedy, lengths_of, runs_count, plain_len, parts_count}
use Rattle.mode6_frame.specs.Frames.{FrameParts, spelled_frame, head_of, padding_of}
use Rattle.mode6_frame.specs.Groups.{is_tagged, tag_of, untagged}
use Rattle.mode6_frame.specs.Items.{is_name_octet, AreNameOctets, value_octets, IsItemText}
use Rattle.mode6_frame.specs.ItemTexts.{item_text, plain_text, written_value, IsWritable}
use Rattle.mode6_frame.specs.Served.{text_in}
use Rattle.mode6_frame.proofs.WrittenLemmas.{AllByRecursion-parts, IsItemText-joined, IsItemText-line, IsItemText-lines, IsItemText-plain}
use Rattle.mode6_frame.proofs.TagLemmas.{length-tag_item, tag_of-tag_text, untagged-tag_text}

-- each run has an item
abbrev AreFilled : List (List Item) → Type 0
AreFilled = AllByRecursion (λ run. 0 < length run)

-- the items of runs, the first of which has one more
joined-in_first : (item : Item) (runs : List (List Item)) → flat_map (λ run. run) (in_first item runs) ≡ item ∷ flat_map (λ run. run) runs
joined-in_first item [] = refl
joined-in_first item (run ∷ runs) = refl

-- the runs have the items, in their order
pub runs-joined : (used : ℕ) (items : List Item) → flat_map (λ run. run) (runs_after used items) ≡ items
runs-joined used [] = refl
runs-joined used (item ∷ items) =
    cond_both (has_room (used + width_of item)) _ _ (λ runs. flat_map (λ run. run) runs ≡ item ∷ items)
    (λ _. joined-in_first item (runs_after (used + width_of item) items) ∙ ap (λ rest. item ∷ rest) (runs-joined (used + width_of item) items))
    (λ _. joined-in_first item (runs_after (TAG_ITEM_LEN + width_of item) items) ∙ ap (λ rest. item ∷ rest) (runs-joined (TAG_ITEM_LEN + width_of item) items))

-- an item in front of a run that fits with it
greedy-in_first : (used : ℕ) (item : Item) (runs : List (List Item)) → AreGreedy (used + width_of item) runs → AreGreedy used (in_first item runs)
greedy-in_first used item [] none = absurd none
greedy-in_first used item (run ∷ []) fits = omega (arith, fits, sum_by-cons width_of item run)
greedy-in_first used item (run ∷ next ∷ runs) (fits, surplus, rest) =
    let same : used + width_of item + sum_by width_of run ≡ used + sum_by width_of (item ∷ run) = omega (arith, sum_by-cons width_of item run) in
    (omega (arith, fits, same), subst (λ n. IsSurplus n next) same surplus, rest)

-- an item that does not fit begins the next run
greedy-next : (used : ℕ) (item : Item) (runs : List (List Item)) → IsWithinPart used → MAX_BODY < used + width_of item + 3
    → AreGreedy (TAG_ITEM_LEN + width_of item) runs → AreGreedy used ([] ∷ in_first item runs)
greedy-next used item [] fits full none = absurd none
greedy-next used item (run ∷ runs) fits full rest = (omega (arith, fits), omega (arith, full), greedy-in_first TAG_ITEM_LEN item (run ∷ runs) rest)

-- each run fits, and the first item of the next would not have fitted
pub runs-greedy : (used : ℕ) (items : List Item) → used + 3 ≤ MAX_BODY → AreShort items → AreGreedy used (runs_after used items)
runs-greedy used [] room short = omega (arith, room)
runs-greedy used (item ∷ items) room short =
    cond_both (has_room (used + width_of item)) _ _ (AreGreedy used)
    (λ is. greedy-in_first used item (runs_after (used + width_of item) items) (runs-greedy (used + width_of item) items (leb-true _ _ is) short.1))
    (λ is. greedy-next used item (runs_after (TAG_ITEM_LEN + width_of item) items) room (leb-false _ _ is)
    (runs-greedy (TAG_ITEM_LEN + width_of item) items (omega (arith, short.0)) short.1))

-- there is a run
pub some-in_first : (item : Item) (runs : List (List Item)) → 0 < length (in_first item runs)
some-in_first item [] = omega arith
some-in_first item (run ∷ runs) = omega arith

pub runs-some : (used : ℕ) (items : List Item) → 0 < length (runs_after used items)
runs-some used [] = omega arith
runs-some used (item ∷ items) =
    cond_both (has_room (used + width_of item)) _ _ (λ runs. 0 < length runs)
    (λ _. some-in_first item (runs_after (used + width_of item) items))
    (λ _. omega arith)

-- one more item in the first run makes no run more
length-in_first : (item : Item) (runs : List (List Item)) → 0 < length runs → length (in_first item runs) ≡ length runs
length-in_first item [] some = absurd (omega arith)
length-in_first item (run ∷ runs) some = refl

-- the number of runs is a function of the lengths of the items' texts
runs-counted : (used : ℕ) (items : List Item) → length (runs_after used items) ≡ runs_count used (lengths_of items)
runs-counted used [] = refl
runs-counted used (item ∷ items) =
    let more = runs-counted (used + width_of item) items in
    let next = runs-counted (TAG_ITEM_LEN + width_of item) items in
    cond_both (has_room (used + width_of item)) _ _ (λ runs. length runs ≡ runs_count used (lengths_of (item ∷ items)))
    (λ is. rw is (length-in_first item _ (runs-some (used + width_of item) items) ∙ more))
    (λ is. rw is (ap suc (length-in_first item _ (runs-some (TAG_ITEM_LEN + width_of item) items) ∙ next) ∙ omega arith))

-- as many parts as runs are laid out
length-laid : (tag offset : ℕ) (runs : List (List Item)) → length (laid tag offset runs) ≡ length runs
length-laid tag offset [] = refl
length-laid tag offset (run ∷ []) = refl
length-laid tag offset (run ∷ next ∷ runs) = ap suc (length-laid tag (offset + length (part_body tag true run)) (next ∷ runs))

-- the octets of items, each of which a comma and a space precede
pub length-widths : (items : List Item) → length (flat_map (λ item. codes ", " ++ item_text item) items) ≡ sum_by width_of items
length-widths [] = refl
length-widths (item ∷ items) =
    omega (arith, length-append (codes ", " ++ item_text item) (flat_map (λ item. codes ", " ++ item_text item) items), length-widths items, sum_by-cons width_of item items)

-- the octets of a plain text
pub length-plain_text : (items : List Item) → length (plain_text items) ≡ sum_by width_of items
length-plain_text [] = refl
length-plain_text (item ∷ items) =
    let rest = flat_map (λ item. codes ", " ++ item_text item) items in
    omega (arith, length-append (item_text item ++ rest) (codes "\r\n"), length-append (item_text item) rest, length-widths items, sum_by-cons width_of item items)

-- widths by lengths
sum-widths : (items : List Item) → sum_by width_of items ≡ plain_len (lengths_of items)
sum-widths [] = refl
sum-widths (item ∷ items) =
    sum_by-cons width_of item items ∙ ap (λ n. width_of item + n) (sum-widths items) ∙ sym (sum_by-cons (λ n. 2 + n) (length (item_text item)) (lengths_of items))

-- a text that fits is one part
pub parts_cut-whole : (tag : ℕ) (items : List Item) → nat_le (length (plain_text items)) MAX_BODY ≡ true → parts_cut tag items ≡ whole_part (plain_text items) ∷ []
unfolding parts_cut
parts_cut-whole tag items is = cond-true _ _ _ is

-- and another is laid out in runs
pub parts_cut-laid : (tag : ℕ) (items : List Item) → nat_le (length (plain_text items)) MAX_BODY ≡ false
    → parts_cut tag items ≡ laid tag 0 (runs_after TAG_ITEM_LEN items)
unfolding parts_cut
parts_cut-laid tag items is = cond-false _ _ _ is

-- the number of parts is a function of the lengths of the items' texts
pub parts-counted : (tag : ℕ) (items : List Item) → length (parts_cut tag items) ≡ parts_count (lengths_of items)
unfolding parts_cut
parts-counted tag items =
    let same : nat_le (length (plain_text items)) MAX_BODY ≡ nat_le (plain_len (lengths_of items)) MAX_BODY =
    ap (λ n. nat_le n MAX_BODY) (length-plain_text items ∙ sum-widths items) in
    cond_both (nat_le (length (plain_text items)) MAX_BODY) _ _ (λ (parts : List Part). length parts ≡ parts_count (lengths_of items))
    (λ is. sym (cond-true _ _ _ (sym same ∙ is)))
    (λ is. length-laid tag 0 (runs_after TAG_ITEM_LEN items) ∙ runs-counted TAG_ITEM_LEN items ∙ sym (cond-false _ _ _ (sym same ∙ is)))

-- the octets of a part's body
length-part_body : (tag : ℕ) (more : Bool) (run : List Item) → length (part_body tag more run) ≡ TAG_ITEM_LEN + sum_by width_of run + (if more then 3 else 2)
length-part_body tag true run =
    let items = flat_map (λ item. codes ", " ++ item_text item) run in
    omega (arith, length-append (tag_item tag ++ items) (codes ",\r\n"), length-append (tag_item tag) items, length-tag_item tag, length-widths run)
length-part_body tag false run =
    let items = flat_map (λ item. codes ", " ++ item_text item) run in
    omega (arith, length-append (tag_item tag ++ items) (codes "\r\n"), length-append (tag_item tag) items, length-tag_item tag, length-widths run)

-- runs that fit make bodies that are not too long
laid-short : (tag offset : ℕ) (runs : List (List Item)) → AreGreedy TAG_ITEM_LEN runs
    → AllByRecursion (λ part. length part.body ≤ MAX_BODY) (laid tag offset runs)
laid-short tag offset [] none = absurd none
laid-short tag offset (run ∷ []) fits = (omega (arith, length-part_body tag false run, fits), tt)
laid-short tag offset (run ∷ next ∷ runs) (fits, surplus, rest) =
    (omega (arith, length-part_body tag true run, fits), laid-short tag (offset + length (part_body tag true run)) (next ∷ runs) rest)

-- no body is too long
pub parts-short : (tag : ℕ) (items : List Item) → AreShort items
    → AllByRecursion (λ part. length part.body ≤ MAX_BODY) (parts_cut tag items)
unfolding parts_cut
parts-short tag items short =
    cond_both (nat_le (length (plain_text items)) MAX_BODY) _ _ (AllByRecursion (λ part. length part.body ≤ MAX_BODY))
    (λ is. (leb-true _ _ is, tt))
    (λ _. laid-short tag 0 (runs_after TAG_ITEM_LEN items) (runs-greedy TAG_ITEM_LEN items (omega arith) short))

-- one part more before parts that lie end to end
LieFrom-cons : (place : ℕ) (part : Part) (parts : List Part) → part.offset ≡ place → part.more ≡ true
    → LieFrom (place + length part.body) parts → LieFrom place (part ∷ parts)
LieFrom-cons place part [] offset more none = absurd none
LieFrom-cons place part (next ∷ parts) offset more rest = (offset, more, rest)

-- runs are laid out end to end
laid-lie : (tag offset : ℕ) (runs : List (List Item)) → 0 < length runs → LieFrom offset (laid tag offset runs)
laid-lie tag offset [] some = absurd (omega arith)
laid-lie tag offset (run ∷ []) some = (refl, refl)
laid-lie tag offset (run ∷ next ∷ runs) some = LieFrom-cons offset _ (laid tag (offset + length (part_body tag true run)) (next ∷ runs)) refl refl
    (laid-lie tag (offset + length (part_body tag true run)) (next ∷ runs) (omega arith))

-- what spells a body that is not too long is not too long
length-spelled_frame : (f : FrameParts) → length f.body ≤ MAX_BODY → length (spelled_frame f) ≤ HEAD_LEN + MAX_BODY
unfolding head_of
length-spelled_frame f short =
    let octets = length f.body in
    omega (arith, length-append (head_of f ++ f.body) (padding_of octets), length-append (head_of f) f.body, length-replicate {A = ℕ} ((octets + 3) / 4 * 4 - octets) 0)

-- no datagram of parts is too long
grams-short : (head : Head) (parts : List Part) → AllByRecursion (λ part. length part.body ≤ MAX_BODY) parts
    → AllByRecursion (λ gram. length gram ≤ HEAD_LEN + MAX_BODY) (map (λ part. spelled_frame (part_frame head part)) parts)
grams-short head [] short = tt
grams-short head (part ∷ parts) short = (length-spelled_frame (part_frame head part) short.0, grams-short head parts short.1)

-- no datagram is too long
pub datagrams-short : (head : Head) (tag : ℕ) (items : List Item) → AreShort items
    → AllByRecursion (λ gram. length gram ≤ HEAD_LEN + MAX_BODY) (datagrams head tag items)
datagrams-short head tag items short = grams-short head (parts_cut tag items) (parts-short tag items short)

-- the answer of one datagram
pub one_gram : (result pushed grams : List (List ℕ)) (gram whole : List ℕ) → result ≡ pushed → pushed ≡ grams ++ gram ∷ [] → grams ≡ [] → gram ≡ whole
    → result ≡ whole ∷ []
one_gram result pushed grams gram whole of_pushed push none is = of_pushed ∙ push ∙ (λ i. none i ++ is i ∷ [])

-- there are as many datagrams as parts
pub datagrams-counted : (head : Head) (tag : ℕ) (items : List Item) → length (datagrams head tag items) ≡ parts_count (lengths_of items)
datagrams-counted head tag items = length-map (parts_cut tag items) (λ part. spelled_frame (part_frame head part)) ∙ parts-counted tag items

-- the parts lie end to end from the first octet on, and all but the last say that more follow
pub parts-lie : (tag : ℕ) (items : List Item) → LieFrom 0 (parts_cut tag items)
unfolding parts_cut
parts-lie tag items =
    cond_both (nat_le (length (plain_text items)) MAX_BODY) _ _ (LieFrom 0)
    (λ _. (refl, refl))
    (λ _. laid-lie tag 0 (runs_after TAG_ITEM_LEN items) (runs-some TAG_ITEM_LEN items))

-- octets in another grouping
regroup : (tag comma item items end : List ℕ) → (tag ++ ((comma ++ item) ++ items)) ++ end ≡ (tag ++ comma) ++ ((item ++ items) ++ end)
regroup tag comma item items end = simp append_assoc refl

-- an item in front of a run leaves no run empty
filled-in_first : (item : Item) (runs : List (List Item)) → AreFilled runs → AreFilled (in_first item runs)
filled-in_first item [] filled = (omega arith, tt)
filled-in_first item (run ∷ runs) filled = (omega arith, filled.1)

-- only the first run can be empty
filled-runs : (used : ℕ) (item : Item) (items : List Item) → AreFilled (in_first item (runs_after used items))
filled-runs used item [] = (omega arith, tt)
filled-runs used item (next ∷ items) =
    cond_both (has_room (used + width_of next)) _ _ (λ runs. AreFilled (in_first item runs))
    (λ _. filled-in_first item (in_first next (runs_after (used + width_of next) items)) (filled-runs (used + width_of next) next items))
    (λ _. (omega arith, filled-runs (TAG_ITEM_LEN + width_of next) next items))

-- a first item that is short enough stands in the first run
runs-filled : (items : List Item) → AreShort items → 0 < length items → AreFilled (runs_after TAG_ITEM_LEN items)
runs-filled [] short some = absurd (omega arith)
runs-filled (item ∷ items) short some =
    cond_both (has_room (TAG_ITEM_LEN + width_of item)) _ _ AreFilled
    (λ _. filled-runs (TAG_ITEM_LEN + width_of item) item items)
    (λ is. absurd (omega (arith, leb-false _ _ is, short.0)))

-- a text that is too long has items
items-some : (items : List Item) → MAX_BODY < length (plain_text items) → 0 < length items
items-some [] long = absurd (omega (arith, long))
items-some (item ∷ items) long = omega arith

-- the end of a body
abbrev end_of : Bool → List ℕ
end_of more = if more then codes ",\r\n" else codes "\r\n"

-- the items of a body, each but the first behind a comma and a space
abbrev items_text : Item → List Item → List ℕ
items_text item run = item_text item ++ flat_map (λ item. codes ", " ++ item_text item) run

-- a body is the tag before its items
part_body-tag_text : (tag : ℕ) (more : Bool) (item : Item) (run : List Item)
    → part_body tag more (item ∷ run) ≡ tag_text tag ++ (items_text item run ++ end_of more)
part_body-tag_text tag more item run =
    regroup (tag_item tag) (codes ", ") (item_text item) (flat_map (λ item. codes ", " ++ item_text item) run) (end_of more)

-- filled runs make tagged bodies
laid-tagged : (tag offset : ℕ) (runs : List (List Item)) → AreFilled runs
    → AllByRecursion (λ part. tag_of part.body ≡ tag_text tag) (laid tag offset runs)
laid-tagged tag offset [] filled = tt
laid-tagged tag offset ([] ∷ runs) filled = absurd (omega (arith, filled.0))
laid-tagged tag offset ((item ∷ run) ∷ []) filled =
    (ap tag_of (part_body-tag_text tag false item run) ∙ tag_of-tag_text tag (items_text item run ++ end_of false), tt)
laid-tagged tag offset ((item ∷ run) ∷ next ∷ runs) filled = (
  ap tag_of (part_body-tag_text tag true item run) ∙ tag_of-tag_text tag (items_text item run ++ end_of true),
  laid-tagged tag (offset + length (part_body tag true (item ∷ run))) (next ∷ runs) filled.1,
)

-- where there are two parts or more, each has the tag
pub parts-tagged : (tag : ℕ) (items : List Item) → AreShort items → 2 ≤ length (parts_cut tag items)
    → AllByRecursion (λ part. tag_of part.body ≡ tag_text tag) (parts_cut tag items)
unfolding parts_cut
parts-tagged tag items short =
    cond_both (nat_le (length (plain_text items)) MAX_BODY) _ _
    (λ (parts : List Part). 2 ≤ length parts → AllByRecursion (λ part. tag_of part.body ≡ tag_text tag) parts)
    (λ _ several. absurd (omega (arith, several)))
    (λ is _. laid-tagged tag 0 (runs_after TAG_ITEM_LEN items) (runs-filled items short (items-some items (leb-false _ _ is))))

-- no body of runs is empty
laid-filled : (tag offset : ℕ) (runs : List (List Item)) → AllByRecursion (λ part. 0 < length part.body) (laid tag offset runs)
laid-filled tag offset [] = tt
laid-filled tag offset (run ∷ []) = (omega (arith, length-part_body tag false run), tt)
laid-filled tag offset (run ∷ next ∷ runs) =
    (omega (arith, length-part_body tag true run), laid-filled tag (offset + length (part_body tag true run)) (next ∷ runs))

-- and none is empty
pub parts-filled : (tag : ℕ) (items : List Item) → 2 ≤ length (parts_cut tag items)
    → AllByRecursion (λ part. 0 < length part.body) (parts_cut tag items)
unfolding parts_cut
parts-filled tag items =
    cond_both (nat_le (length (plain_text items)) MAX_BODY) _ _
    (λ (parts : List Part). 2 ≤ length parts → AllByRecursion (λ part. 0 < length part.body) parts)
    (λ _ several. absurd (omega (arith, several)))
    (λ _ _. laid-filled tag 0 (runs_after TAG_ITEM_LEN items))

-- the same of a name, and its value before others
regroup_value : (name sign value others end : List ℕ) → ((name ++ (sign ++ value)) ++ others) ++ end ≡ name ++ (sign ++ ((value ++ others) ++ end))
regroup_value name sign value others end = simp append_assoc refl

-- and of one without a value
regroup_name : (name others end : List ℕ) → ((name ++ []) ++ others) ++ end ≡ name ++ (others ++ end)
regroup_name name others end = simp (append_assoc, append-nil) refl

-- behind the name of the first item of a plain text stands an equals sign, a comma or carriage return
plain-begins : (name : List ℕ) (value : Option (List ℕ)) (items : List Item)
    → (octet : ℕ) × (rest : List ℕ) × (octet ≤ 61) × (plain_text (record { name = name; value = value } ∷ items) ≡ name ++ octet ∷ rest)
plain-begins name (Some value) items =
    let octets = value_octets (written_value name value) in
    let others = flat_map (λ item. codes ", " ++ item_text item) items in
    (61, (octets ++ others) ++ codes "\r\n", omega arith, regroup_value name (61 ∷ []) octets others (codes "\r\n"))
plain-begins name None [] = (13, 10 ∷ [], omega arith, regroup_name name [] (codes "\r\n"))
plain-begins name None (next ∷ items) =
    let others = item_text next ++ flat_map (λ item. codes ", " ++ item_text item) items in
    (44, (32 ∷ others) ++ codes "\r\n", omega arith, regroup_name name (44 ∷ 32 ∷ others) (codes "\r\n"))

-- an octet of a name is no equals sign
no_equals : (octet : ℕ) → is_name_octet octet ≡ true → octet ≢ 61
no_equals octet is equal = absurd (false≢true (ap is_name_octet (sym equal) ∙ is))

-- octets that do not begin as a tag does are not tagged
not_tagged : (body : List ℕ) → take 7 body ≢ codes "resp=0x" → is_tagged body ≡ false
not_tagged body other =
    let tag = codes "resp=0x" in
    let differs : bytes_eq (take 7 body) tag ≡ false =
    false_from_ne_true (bytes_eq (take 7 body) tag) (λ is. other ((bytes_eq-Decides (take 7 body) tag).0 is)) in
    rw differs refl

-- a name before such an octet does not make a tag
untagged-name : (name : List ℕ) (octet : ℕ) (rest : List ℕ) → AreNameOctets name → 0 < length name → name ≢ codes "resp" → octet ≤ 61
    → take 7 (name ++ octet ∷ rest) ≢ codes "resp=0x"
untagged-name [] octet rest are some no_tag low tag = omega arith
untagged-name (a ∷ []) octet rest are some no_tag low tag = omega (arith, ap (λ xs. slice_index xs 1) tag)
untagged-name (a ∷ b ∷ []) octet rest are some no_tag low tag = omega (arith, ap (λ xs. slice_index xs 2) tag)
untagged-name (a ∷ b ∷ c ∷ []) octet rest are some no_tag low tag = omega (arith, ap (λ xs. slice_index xs 3) tag)
untagged-name (a ∷ b ∷ c ∷ d ∷ []) octet rest are some no_tag low tag = no_tag (ap (take 4) tag)
untagged-name (a ∷ b ∷ c ∷ d ∷ e ∷ name) octet rest are some no_tag low tag =
    no_equals e are.1.1.1.1.0 (ap (λ xs. slice_index xs 4) tag)

-- the plain text of writable items is not tagged
is_tagged-plain_text : (items : List Item) → AllByRecursion IsWritable items → is_tagged (plain_text items) ≡ false
is_tagged-plain_text [] all = refl
is_tagged-plain_text (item ∷ items) all =
    let begins = plain-begins item.name item.value items in
    let not_tag : take 7 (plain_text (item ∷ items)) ≢ codes "resp=0x" = λ tag.
    untagged-name item.name begins.0 begins.1 all.0.name all.0.some all.0.no_tag begins.2 (sym (ap (take 7) begins.3) ∙ tag) in
    not_tagged (plain_text (item ∷ items)) not_tag

-- so all of it is its text
untagged-plain_text : (items : List Item) → AllByRecursion IsWritable items → untagged (plain_text items) ≡ plain_text items
unfolding untagged
untagged-plain_text items all = cond-false (is_tagged (plain_text items)) _ _ (is_tagged-plain_text items all)

-- the text of a part is its items and its end
untagged-part_body : (tag : ℕ) (more : Bool) (item : Item) (run : List Item)
    → untagged (part_body tag more (item ∷ run)) ≡ items_text item run ++ end_of more
untagged-part_body tag more item run =
    ap untagged (part_body-tag_text tag more item run) ∙ untagged-tag_text tag (items_text item run ++ end_of more)

-- the text of runs has their items
laid-read : (tag offset : ℕ) (runs : List (List Item)) → 0 < length runs → AreFilled runs → AllByRecursion IsWritable (flat_map (λ run. run) runs)
    → IsItemText (text_in (laid tag offset runs)) (flat_map (λ run. run) runs)
laid-read tag offset [] some filled writable = absurd (omega arith)
laid-read tag offset ([] ∷ runs) some filled writable = absurd (omega (arith, filled.0))
laid-read tag offset ((item ∷ run) ∷ []) some filled writable =
    let text = untagged-part_body tag false item run in
    let each = (AllByRecursion-parts IsWritable (item ∷ run) [] writable).0 in
    let line = IsItemText-line (items_text item run) (item ∷ run) (IsItemText-joined (item ∷ run) each) in
    subst (λ (octets : List ℕ). IsItemText octets ((item ∷ run) ++ [])) (sym text ∙ sym (append-nil _))
    (subst (λ (items : List Item). IsItemText (items_text item run ++ end_of false) items) (sym (append-nil (item ∷ run))) line)
laid-read tag offset ((item ∷ run) ∷ next ∷ runs) some filled writable =
    let place = offset + length (part_body tag true (item ∷ run)) in
    let rest = flat_map (λ run. run) (next ∷ runs) in
    let all = AllByRecursion-parts IsWritable (item ∷ run) rest writable in
    let lines = IsItemText-lines (items_text item run) (text_in (laid tag place (next ∷ runs))) (item ∷ run) rest
    (IsItemText-joined (item ∷ run) all.0) (laid-read tag place (next ∷ runs) (omega arith) filled.1 all.1) in
    subst (λ (octets : List ℕ). IsItemText (octets ++ text_in (laid tag place (next ∷ runs))) ((item ∷ run) ++ rest)) (sym (untagged-part_body tag true item run)) lines

-- the text of the parts of an answer has the items of the answer
pub parts-read : (tag : ℕ) (items : List Item) → tag < 2 ^ 64 → AllByRecursion IsWritable items → IsCuttable tag items
    → IsItemText (text_in (parts_cut tag items)) items
unfolding parts_cut
parts-read tag items fits writable cuttable =
    let runs = runs_after TAG_ITEM_LEN items in
    cond_both (nat_le (length (plain_text items)) MAX_BODY) _ _ (λ (parts : List Part). IsItemText (text_in parts) items)
    (λ _. subst (λ (octets : List ℕ). IsItemText octets items) (sym (untagged-plain_text items writable) ∙ sym (append-nil _)) (IsItemText-plain items writable))
    (λ is. subst (λ (them : List Item). IsItemText (text_in (laid tag 0 runs)) them) (runs-joined TAG_ITEM_LEN items)
    (laid-read tag 0 runs (runs-some TAG_ITEM_LEN items) (runs-filled items cuttable.short (items-some items (leb-false _ _ is)))
    (subst (λ (them : List Item). AllByRecursion IsWritable them) (sym (runs-joined TAG_ITEM_LEN items)) writable)))

-- bodies that are not too long have so many octets together
octets-short : (parts : List Part) → AllByRecursion (λ part. length part.body ≤ MAX_BODY) parts → octets_in parts ≤ MAX_BODY * length parts
octets-short [] short = omega arith
octets-short (part ∷ parts) short =
    omega (arith, sum_by-cons (λ (part : Part). length part.body) part parts, octets-short parts short.1, short.0)

-- there is one run more than items, at most
runs_count-most : (used : ℕ) (lengths : List ℕ) → runs_count used lengths ≤ 1 + length lengths
runs_count-most used [] = omega arith
runs_count-most used (n ∷ lengths) =
    cond_both (has_room (used + (2 + n))) _ _ (λ count. count ≤ 1 + length (n ∷ lengths))
    (λ _. omega (arith, runs_count-most (used + (2 + n)) lengths))
    (λ _. omega (arith, runs_count-most (TAG_ITEM_LEN + (2 + n)) lengths))

-- and one part more
parts_count-most : (lengths : List ℕ) → parts_count lengths ≤ 1 + length lengths
parts_count-most lengths =
    cond_both (nat_le (plain_len lengths) MAX_BODY) _ _ (λ count. count ≤ 1 + length lengths)
    (λ _. omega arith)
    (λ _. runs_count-most TAG_ITEM_LEN lengths)

-- short items that make few parts can be cut
pub IsCuttable-counted : (tag : ℕ) (items : List Item) → AreShort items → parts_count (lengths_of items) ≤ 140 → IsCuttable tag items
IsCuttable-counted tag items short few = record {
  short = short;
  placed = omega (arith, octets-short (parts_cut tag items) (parts-short tag items short), parts-counted tag items, few);
}

-- and so can few short items
pub IsCuttable-few : (tag : ℕ) (items : List Item) → AreShort items → length items < 140 → IsCuttable tag items
IsCuttable-few tag items short few =
    IsCuttable-counted tag items short (omega (arith, parts_count-most (lengths_of items), length-map items (λ item. length (item_text item)), few))
