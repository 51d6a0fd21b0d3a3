-- An answer cut into datagrams, none of which has a body of more than 468 octets (RFC 9327, section 2; the tag that
-- the fragments share is our own rule).
use Rattle.std.specs.Prelude.{◌≡◌, ℕ, ◌+◌, ◌≤◌, ◌<◌, nat_le, Bool, true, false, if◌then◌else◌, List, [], ◌∷◌, ◌++◌, length, map, codes}
use Rattle.std.specs.List.{AllByRecursion, flat_map, sum_by}
use Rattle.byteorder.specs.Endian.{big_bytes}
use Rattle.hex.specs.Hex.{encode_lower}
use Rattle.mode6_frame.specs.declared.cutting.TheConstants.{MAX_ITEM}
use Rattle.mode6_frame.specs.declared.items.Item.{Item}
use Rattle.mode6_frame.specs.declared.message.Head.{Head}
use Rattle.mode6_frame.specs.declared.message.TheConstants.{MAX_BODY}
use Rattle.mode6_frame.specs.Frames.{FrameParts, spelled_frame}
use Rattle.mode6_frame.specs.ItemTexts.{item_text, plain_text}

-- one part of an answer: the place of its first octet in the whole, whether more follow, and its octets
pub record Part : Type 0 where
  pub offset : ℕ
  pub more : Bool
  pub body : List ℕ

-- the response to a request that carries one part of its answer, with the head's status
abbrev pub part_frame : Head → Part → FrameParts
part_frame head part = record {
  leap = 0;
  version = head.version;
  response = true;
  error = false;
  more = part.more;
  opcode = head.opcode;
  sequence = head.sequence;
  status = head.status;
  assoc = head.assoc;
  offset = part.offset;
  body = part.body;
}

-- an answer whole in one part
abbrev pub whole_part : List ℕ → Part
whole_part body = record { offset = 0; more = false; body = body }

-- a tag as an item: `resp`, and the tag in sixteen hexadecimal digits
unfoldable pub tag_item : ℕ → List ℕ
tag_item tag = codes "resp=0x" ++ encode_lower (big_bytes 8 tag)

-- how many octets a tag as an item has
abbrev pub TAG_ITEM_LEN : ℕ
TAG_ITEM_LEN = 23

-- how many octets an item adds to a part: a comma, a space and its text
abbrev pub width_of : Item → ℕ
width_of item = 2 + length (item_text item)

-- so many octets of tag and items leave room for the end of a part: a comma, carriage return and line feed
abbrev pub has_room : ℕ → Bool
has_room used = nat_le (used + 3) MAX_BODY

-- an item put before the first of these runs
abbrev pub in_first : Item → List (List Item) → List (List Item)
in_first item [] = (item ∷ []) ∷ []
in_first item (run ∷ runs) = (item ∷ run) ∷ runs

-- the items in runs, one a part, where the part under way has so many octets: an item goes into it as long as there is
-- room, and else begins the next
abbrev pub runs_after : ℕ → List Item → List (List Item)
runs_after used [] = [] ∷ []
runs_after used (item ∷ items) =
    if has_room (used + width_of item) then in_first item (runs_after (used + width_of item) items)
    else [] ∷ in_first item (runs_after (TAG_ITEM_LEN + width_of item) items)

-- the octets of a part: the tag, each item behind a comma and a space, and a line end, before which a comma stands
-- where more parts follow
abbrev pub part_body : ℕ → Bool → List Item → List ℕ
part_body tag more run =
    tag_item tag ++ flat_map (λ item. codes ", " ++ item_text item) run ++ (if more then codes ",\r\n" else codes "\r\n")

-- runs laid out as parts, end to end from a place on
abbrev pub laid : ℕ → ℕ → List (List Item) → List Part
laid tag offset [] = []
laid tag offset (run ∷ []) = record { offset = offset; more = false; body = part_body tag false run } ∷ []
laid tag offset (run ∷ next ∷ runs) =
    record { offset = offset; more = true; body = part_body tag true run }
    ∷ laid tag (offset + length (part_body tag true run)) (next ∷ runs)

-- the parts of an answer with these items: one without a tag where their text fits, else tagged runs
unfoldable pub parts_cut : ℕ → List Item → List Part
parts_cut tag items =
    if nat_le (length (plain_text items)) MAX_BODY then whole_part (plain_text items) ∷ []
    else laid tag 0 (runs_after TAG_ITEM_LEN items)

-- the datagrams of an answer with these items, in order
abbrev pub datagrams : Head → ℕ → List Item → List (List ℕ)
datagrams head tag items = map (λ part. spelled_frame (part_frame head part)) (parts_cut tag items)

-- the octets of all parts together
abbrev pub octets_in : List Part → ℕ
octets_in parts = sum_by (λ part. length part.body) parts

-- a tag as it stands before the first item of a part
abbrev pub tag_text : ℕ → List ℕ
tag_text tag = tag_item tag ++ codes ", "

-- one or more parts lie end to end from a place on, and all but the last say that more follow
abbrev pub LieFrom : ℕ → List Part → Type 0
LieFrom place [] = ⊥
LieFrom place (part ∷ []) = (part.offset ≡ place) × (part.more ≡ false)
LieFrom place (part ∷ next ∷ parts) =
    (part.offset ≡ place) × (part.more ≡ true) × LieFrom (place + length part.body) (next ∷ parts)

-- so many octets of tag and items fit into a part with its end
abbrev pub IsWithinPart : ℕ → Type 0
IsWithinPart used = used + 3 ≤ MAX_BODY

-- the first item of a run does not fit into a part with so many octets
abbrev pub IsSurplus : ℕ → List Item → Type 0
IsSurplus used [] = ⊥
IsSurplus used (item ∷ run) = MAX_BODY < used + width_of item + 3

-- each run fits into a part, of which the first has so many octets already, and the next run's first item would not have
-- fitted as well
abbrev pub AreGreedy : ℕ → List (List Item) → Type 0
AreGreedy used [] = ⊥
AreGreedy used (run ∷ []) = IsWithinPart (used + sum_by width_of run)
AreGreedy used (run ∷ next ∷ runs) =
    IsWithinPart (used + sum_by width_of run) × IsSurplus (used + sum_by width_of run) next × AreGreedy TAG_ITEM_LEN (next ∷ runs)

-- the lengths of the texts of items
abbrev pub lengths_of : List Item → List ℕ
lengths_of items = map (λ item. length (item_text item)) items

-- how many octets the plain text of items of these lengths has
abbrev pub plain_len : List ℕ → ℕ
plain_len lengths = sum_by (λ n. 2 + n) lengths

-- how many runs items of these lengths make, where the part under way has so many octets
abbrev pub runs_count : ℕ → List ℕ → ℕ
runs_count used [] = 1
runs_count used (n ∷ lengths) =
    if has_room (used + (2 + n)) then runs_count (used + (2 + n)) lengths
    else 1 + runs_count (TAG_ITEM_LEN + (2 + n)) lengths

-- how many parts an answer has whose items have texts of these lengths
abbrev pub parts_count : List ℕ → ℕ
parts_count lengths =
    if nat_le (plain_len lengths) MAX_BODY then 1
    else runs_count TAG_ITEM_LEN lengths

-- the text of each item fits into a part
abbrev pub AreShort : List Item → Type 0
AreShort items = AllByRecursion (λ item. length (item_text item) ≤ MAX_ITEM) items

-- the items can be cut: each fits into a part, and each part has a place that a frame can tell
pub record IsCuttable (tag : ℕ) (items : List Item) : Type 0 where
  pub short : AreShort items
  pub placed : octets_in (parts_cut tag items) ≤ 65535
