-- Worked texts of items and worked answers in parts: our own rules, as numbers and octets.
use Rattle.std.proofs.Common.{◌≡◌, ℕ, ◌+◌, true, false, List, [], ◌∷◌, length, map, replicate, Some, None, refl, lit≤}
use Rattle.std.specs.Prelude.{codes}
use Rattle.hex.specs.Hex.{encode_with}
use Rattle.mode6_frame.specs.declared.cutting.TheConstants.{MAX_ITEM}
use Rattle.mode6_frame.specs.declared.items.Item.{Item}
use Rattle.mode6_frame.specs.declared.message.Head.{Head}
use Rattle.mode6_frame.specs.Cuts.{part_frame, TAG_ITEM_LEN, tag_item, has_room, part_body, parts_cut, parts_count, plain_len}
use Rattle.mode6_frame.specs.Frames.{head_of, padding_of}
use Rattle.mode6_frame.specs.ItemTexts.{item_text, plain_text}

-- a variable, and one without a value
abbrev valued : List ℕ → List ℕ → Item
valued name value = record { name = name; value = Some value }

abbrev named : List ℕ → Item
named name = record { name = name; value = None }

text_alone : item_text (named (codes "stratum")) ≡ codes "stratum"
text_alone = refl

text_with_value : item_text (valued (codes "stratum") (codes "16")) ≡ codes "stratum=16"
text_with_value = refl

text_with_empty_value : item_text (valued (codes "leap") []) ≡ codes "leap="
text_with_empty_value = refl

text_with_space : item_text (valued (codes "version") (codes "ntpd 4")) ≡ codes "version=\"ntpd 4\""
text_with_space = refl

text_with_comma : item_text (valued (codes "system") (codes "a,b")) ≡ codes "system=\"a,b\""
text_with_comma = refl

text_of_numbers : item_text (valued (codes "filtdelay") (codes "0.1 0.2")) ≡ codes "filtdelay=0.1 0.2"
text_of_numbers = refl

text_of_offsets : item_text (valued (codes "filtoffset") (codes "0.1 0.2")) ≡ codes "filtoffset=0.1 0.2"
text_of_offsets = refl

text_of_dispersions : item_text (valued (codes "filtdisp") (codes "0.1 0.2")) ≡ codes "filtdisp=0.1 0.2"
text_of_dispersions = refl

plain_text_of_none : plain_text [] ≡ []
plain_text_of_none = refl

plain_text_of_two : plain_text (valued (codes "leap") (codes "3") ∷ named (codes "stratum") ∷ []) ≡ codes "leap=3, stratum\r\n"
plain_text_of_two = refl

-- the digits of a tag, the highest first
tag_item_of_ascending_digits : tag_item 0x0123456789abcdef ≡ codes "resp=0x0123456789abcdef"
unfolding tag_item encode_with
tag_item_of_ascending_digits = refl

length_of_tag_item : length (codes "resp=0x0123456789abcdef") ≡ TAG_ITEM_LEN
length_of_tag_item = refl

-- a part that others follow, and the last
body_before_others : part_body 1 true (valued (codes "leap") (codes "3") ∷ named (codes "stratum") ∷ [])
    ≡ codes "resp=0x0000000000000001, leap=3, stratum,\r\n"
unfolding tag_item encode_with
body_before_others = refl

body_of_the_last : part_body 1 false (named (codes "stratum") ∷ []) ≡ codes "resp=0x0000000000000001, stratum\r\n"
unfolding tag_item encode_with
body_of_the_last = refl

-- an item of 440 octets fills a part that others follow, and one of 441 does not fit
max_item : MAX_ITEM ≡ 440
max_item = refl

room_for_the_longest : has_room (TAG_ITEM_LEN + (2 + 440)) ≡ true
room_for_the_longest = refl

no_room_for_more : has_room (TAG_ITEM_LEN + (2 + 441)) ≡ false
no_room_for_more = refl

-- a text of 468 octets stands in one datagram, and one of 469 in two
plain_of_468 : plain_len (440 ∷ 24 ∷ []) ≡ 468
plain_of_468 = refl

one_part_of_468 : parts_count (440 ∷ 24 ∷ []) ≡ 1
one_part_of_468 = refl

two_parts_of_469 : parts_count (440 ∷ 25 ∷ []) ≡ 2
two_parts_of_469 = refl

one_part_of_none : parts_count [] ≡ 1
one_part_of_none = refl

-- 380, 98 and 96 octets of items: 408 octets of body, and then 223
two_parts : map (λ part. part.offset ∷ length part.body ∷ [])
    (parts_cut 0 (named (replicate 380 120) ∷ named (replicate 98 120) ∷ named (replicate 96 120) ∷ []))
    ≡ (0 ∷ 408 ∷ []) ∷ (408 ∷ 223 ∷ []) ∷ []
unfolding parts_cut tag_item encode_with
two_parts = refl

more_follow_the_first : map (λ part. part.more)
    (parts_cut 0 (named (replicate 380 120) ∷ named (replicate 98 120) ∷ named (replicate 96 120) ∷ []))
    ≡ true ∷ false ∷ []
unfolding parts_cut tag_item encode_with
more_follow_the_first = refl

-- operation 2 of version 2, for association 1, and a status of 8000
abbrev head : Head
head = record {
  version = 2;
  opcode = 2;
  sequence = 2;
  status = 0x8000;
  assoc = 1;
  version_in = lit≤ tt;
  opcode_in = lit≤ tt;
}

head_of_the_first : head_of (part_frame head (record { offset = 0; more = true; body = replicate 408 0 }))
    ≡ 0x16 ∷ 0xa2 ∷ 0x00 ∷ 0x02 ∷ 0x80 ∷ 0x00 ∷ 0x00 ∷ 0x01 ∷ 0x00 ∷ 0x00 ∷ 0x01 ∷ 0x98 ∷ []
unfolding head_of
head_of_the_first = refl

head_of_the_second : head_of (part_frame head (record { offset = 408; more = false; body = replicate 223 0 }))
    ≡ 0x16 ∷ 0x82 ∷ 0x00 ∷ 0x02 ∷ 0x80 ∷ 0x00 ∷ 0x00 ∷ 0x01 ∷ 0x01 ∷ 0x98 ∷ 0x00 ∷ 0xdf ∷ []
unfolding head_of
head_of_the_second = refl

padding_of_the_second : padding_of 223 ≡ 0 ∷ []
padding_of_the_second = refl
