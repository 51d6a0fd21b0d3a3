-- Tags of the parts of an answer: they are found, left out and told apart.
use Rattle.std.proofs.Common.{◌≡◌, ℕ, zero, suc, ◌^◌, ◌/◌, ◌%◌, ◌<◌, true, List, [], ◌∷◌, ◌++◌, length, take, drop, slice_index, Result, Ok, refl, sym, ap, ◌∙◌, append_assoc, length-append, arith}
use Rattle.std.proofs.lemmas.Bool.{cond-true, and_parts}
use Rattle.std.proofs.lemmas.List.{append_cancel_right}
use Rattle.std.proofs.Math.Seq.{take-append_seam, drop-append_seam}
use Rattle.std.specs.Int.{bytes_high_first, byte_at}
use Rattle.std.specs.List.{list_all}
use Rattle.std.specs.Prelude.{codes}
use Rattle.std.specs.Result.{result_unwrap_or}
use Rattle.byteorder.specs.Endian.{big_bytes, big_number}
use Rattle.byteorder.specs.Numbers.{length-bytes_high_first, big_number-reads_back}
use Rattle.hex.proofs.HexLemmas.{length-encode_with, decode_of-encode_lower}
use Rattle.hex.specs.Hex.{IsBytes, encode_lower, encode_with, lower_digits, decode_of}
use Rattle.hex.specs.declared.error.FromHexError.{FromHexError}
use Rattle.mode6_frame.specs.Cuts.{tag_item, tag_text, TAG_ITEM_LEN}
use Rattle.mode6_frame.specs.Groups.{is_tag_digit, is_tagged, tag_of, untagged}

-- the digits of a tag
abbrev digits_of : ℕ → List ℕ
digits_of tag = encode_lower (big_bytes 8 tag)

-- there are sixteen
length-digits_of : (tag : ℕ) → length (digits_of tag) ≡ 16
length-digits_of tag = omega (arith, length-encode_with lower_digits (big_bytes 8 tag), length-bytes_high_first 8 tag)

-- each place of a list of digits of tags has one
is_tag_digit-at : (table : List ℕ) (place : ℕ) → list_all is_tag_digit table ≡ true → place < length table → is_tag_digit (slice_index table place) ≡ true
is_tag_digit-at [] place all below = absurd (omega arith)
is_tag_digit-at (digit ∷ table) zero all below = (and_parts (is_tag_digit digit) (list_all is_tag_digit table) all).0
is_tag_digit-at (digit ∷ table) (suc place) all below =
    is_tag_digit-at table place (and_parts (is_tag_digit digit) (list_all is_tag_digit table) all).1 (omega arith)

-- an octet of a number is one
byte_at-octet : (i n : ℕ) → byte_at i n < 256
byte_at-octet zero n = omega arith
byte_at-octet (suc i) n = omega arith

-- octets in hexadecimal are digits of tags
are_tag_digits : (k n : ℕ) → list_all is_tag_digit (encode_lower (bytes_high_first k n)) ≡ true
unfolding encode_with
are_tag_digits zero n = refl
are_tag_digits (suc k) n =
    let octet = byte_at-octet k n in
    let high = is_tag_digit-at lower_digits (byte_at k n / 16) refl (omega arith) in
    let low = is_tag_digit-at lower_digits (byte_at k n % 16) refl (omega arith) in
    rw (high, low) (are_tag_digits k n)

-- the octets of a number are octets
IsBytes-bytes : (k n : ℕ) → IsBytes (bytes_high_first k n)
IsBytes-bytes zero n i = omega arith
IsBytes-bytes (suc k) n zero = byte_at-octet k n
IsBytes-bytes (suc k) n (suc i) = IsBytes-bytes k n i

-- a tag as an item has 23 octets
pub length-tag_item : (tag : ℕ) → length (tag_item tag) ≡ TAG_ITEM_LEN
unfolding tag_item
length-tag_item tag = omega (arith, length-digits_of tag)

-- a tag before an item has 25 octets
pub length-tag_text : (tag : ℕ) → length (tag_text tag) ≡ 25
length-tag_text tag = omega (arith, length-append (tag_item tag) (codes ", "), length-tag_item tag)

-- sixteen digits behind seven octets
take-digits : (digits rest : List ℕ) → length digits ≡ 16 → take 16 (digits ++ rest) ≡ digits
take-digits digits rest sixteen = ap (λ n. take n (digits ++ rest)) (sym sixteen) ∙ take-append_seam digits rest

-- what follows sixteen digits
drop-digits : (digits rest : List ℕ) → length digits ≡ 16 → drop 16 (digits ++ rest) ≡ rest
drop-digits digits rest sixteen = ap (λ n. drop n (digits ++ rest)) (sym sixteen) ∙ drop-append_seam digits rest

-- octets that begin with a tag are tagged
is_tagged-digits : (digits rest : List ℕ) → length digits ≡ 16 → list_all is_tag_digit digits ≡ true
    → is_tagged (codes "resp=0x" ++ (digits ++ (codes ", " ++ rest))) ≡ true
is_tagged-digits digits rest sixteen all =
    rw (take-digits digits (codes ", " ++ rest) sixteen, drop-digits digits (codes ", " ++ rest) sixteen, all) refl

-- a tag before an item, from its digits on
tag_text-digits : (tag : ℕ) (rest : List ℕ) → tag_text tag ++ rest ≡ codes "resp=0x" ++ (digits_of tag ++ (codes ", " ++ rest))
unfolding tag_item
tag_text-digits tag rest = simp append_assoc refl

-- a body that begins with a tag is tagged
pub is_tagged-tag_text : (tag : ℕ) (rest : List ℕ) → is_tagged (tag_text tag ++ rest) ≡ true
is_tagged-tag_text tag rest =
    ap is_tagged (tag_text-digits tag rest) ∙ is_tagged-digits (digits_of tag) rest (length-digits_of tag) (are_tag_digits 8 tag)

-- and this is its tag
pub tag_of-tag_text : (tag : ℕ) (rest : List ℕ) → tag_of (tag_text tag ++ rest) ≡ tag_text tag
unfolding tag_of
tag_of-tag_text tag rest =
    cond-true (is_tagged (tag_text tag ++ rest)) _ _ (is_tagged-tag_text tag rest)
    ∙ ap (λ n. take n (tag_text tag ++ rest)) (sym (length-tag_text tag))
    ∙ take-append_seam (tag_text tag) rest

-- and what follows is its text
pub untagged-tag_text : (tag : ℕ) (rest : List ℕ) → untagged (tag_text tag ++ rest) ≡ rest
unfolding untagged
untagged-tag_text tag rest =
    cond-true (is_tagged (tag_text tag ++ rest)) _ _ (is_tagged-tag_text tag rest)
    ∙ ap (λ n. drop n (tag_text tag ++ rest)) (sym (length-tag_text tag))
    ∙ drop-append_seam (tag_text tag) rest

-- digits that are equal have equal octets
bytes-digits : (xs ys : List ℕ) → IsBytes xs → IsBytes ys → encode_lower xs ≡ encode_lower ys → xs ≡ ys
bytes-digits xs ys octets others same =
    let ok : Ok xs ≡ Ok ys = sym (decode_of-encode_lower xs octets) ∙ ap decode_of same ∙ decode_of-encode_lower ys others in
    ap (λ (r : Result (List ℕ) FromHexError). result_unwrap_or r []) ok

-- octets that are equal have equal numbers
number-bytes : (n m : ℕ) → n < 256 ^ 8 → m < 256 ^ 8 → big_bytes 8 n ≡ big_bytes 8 m → n ≡ m
number-bytes n m fits other_fits same =
    sym (big_number-reads_back 8 n [] fits) ∙ ap (λ octets. big_number 8 (octets ++ [])) same ∙ big_number-reads_back 8 m [] other_fits

-- tags with one text are equal
pub tag_text-injective : (tag other : ℕ) → tag < 2 ^ 64 → other < 2 ^ 64 → tag_text tag ≡ tag_text other → tag ≡ other
unfolding tag_item
tag_text-injective tag other fits other_fits same =
    let items = append_cancel_right (tag_item tag) (tag_item other) (codes ", ") same in
    let digits : digits_of tag ≡ digits_of other = ap (λ (octets : List ℕ). drop 7 octets) items in
    number-bytes tag other (omega arith) (omega arith)
    (bytes-digits (big_bytes 8 tag) (big_bytes 8 other) (IsBytes-bytes 8 tag) (IsBytes-bytes 8 other) digits)
