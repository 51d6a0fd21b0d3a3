-- Values that are written have octets of names alone, so that they stand without quotes and are read back.
use Rattle.std.proofs.Common.{◌≡◌, ◌≢◌, ◌<◌, ◌+◌, ◌/◌, ◌%◌, ◌^◌, inl, inr, ℕ, zero, suc, true, false, List, [], ◌∷◌, ◌++◌, length, drop, decimal, All, refl, subst, arith}
use Rattle.std.specs.Prelude.{slice_index, get_or, codes}
use Rattle.std.specs.Char.{digit_char}
use Rattle.std.specs.Int.{to_be_bytes, w16, w32}
use Rattle.std.specs.List.{AllByRecursion, list_any}
use Rattle.std.specs.Net.Addr.{segments_of}
use Rattle.std.specs.Net.Text.{hex, hex_groups_text, ipv4_text, leading_zero_digits}
use Rattle.std.proofs.NetLemmas.Alphabet.{IsDigitOrDot, IsHexOrColon, All-ipv4_text, All-hex_groups_text}
use Rattle.std.proofs.lemmas.Bool.{agree_below_at}
use Rattle.std.proofs.lemmas.Bool.Decides.{nat_tests}
use Rattle.std.proofs.lemmas.Fmt.{decimal_by_steps}
use Rattle.std.proofs.lemmas.List.Elements.{All-head, All-tail}
use Rattle.hex.specs.Hex.{encode_with, encode_lower, lower_digits}
use Rattle.net_addr.specs.declared.addr.Addr.{Addr}
use Rattle.net_addr.specs.declared.addr.Ip.{Ip}
use Rattle.net_addr.specs.declared.addr.Ip.TheVariants.{V4, V6}
use Rattle.net_addr.specs.Spelling.{IsAddr, IsIp, before_port, ip_text, text_of}
use Rattle.net_addr.proofs.GroupLemmas.{AllSegments-segments_of}
use Rattle.mode6_frame.specs.Items.{is_bare_octet, is_name_octet, is_quoted_octet, is_white, AreNameOctets, Bare, IsValueText}
use Rattle.mode6_frame.specs.ItemTexts.{IsWritable, is_separator, item_text}
use Rattle.mode6_frame.specs.Stamps.{stamp_text}
use Rattle.mru_items.specs.Names.{valued}
use Rattle.mru_items.specs.Values.{flags_text, mask_text}

-- octets of names, and more of them
pub names-append : (xs ys : List ℕ) → AreNameOctets xs → AreNameOctets ys → AreNameOctets (xs ++ ys)
names-append [] ys first second = second
names-append (x ∷ xs) ys first second = (first.0, names-append xs ys first.1 second)

-- fewer of them
names-drop : (n : ℕ) (xs : List ℕ) → AreNameOctets xs → AreNameOctets (drop n xs)
names-drop zero xs are = are
names-drop (suc n) [] are = tt
names-drop (suc n) (x ∷ xs) are = names-drop n xs are.1

-- a decimal digit is one
digit-name : (d : ℕ) → d < 10 → is_name_octet (48 + d) ≡ true
digit-name d small = grind (arith, nat_tests)

-- a number in decimal digits
pub decimal-names : (n : ℕ) → n < 2 ^ 64 → AreNameOctets (decimal n)
decimal-names n small =
    decimal_by_steps (λ m ds. AreNameOctets ds) (λ m one. (digit-name m one, tt))
    (λ m ds ten are. names-append ds ((48 + m % 10) ∷ []) are (digit-name (m % 10) (omega arith), tt)) n small

-- octets in hexadecimal digits
pub hex_digit-name : (k : ℕ) → k < 16 → is_name_octet (slice_index lower_digits k) ≡ true
hex_digit-name k small = agree_below_at (λ i. is_name_octet (slice_index lower_digits i)) (λ i. true) 16 k refl small

-- each octet in two of them
pub encode-names : (octets : List ℕ) → AllByRecursion (λ octet. octet < 256) octets → AreNameOctets (encode_lower octets)
unfolding encode_with
encode-names [] are = tt
encode-names (x ∷ octets) are = (hex_digit-name (x / 16) (omega (arith, are.0)), (hex_digit-name (x % 16) (omega arith), encode-names octets are.1))

-- a word of 32 bits in eight of them
word-names : (n : ℕ) → AreNameOctets (encode_lower (to_be_bytes w32 n))
word-names n = encode-names (to_be_bytes w32 n) (omega arith, (omega arith, (omega arith, (omega arith, tt))))

-- a timestamp
pub stamp-names : (time : ℕ) → AreNameOctets (stamp_text time)
unfolding stamp_text
stamp-names time =
    let first = encode_lower (to_be_bytes w32 (time / 2 ^ 32)) in
    names-append (codes "0x" ++ first ++ codes ".") (encode_lower (to_be_bytes w32 (time % 2 ^ 32)))
    (names-append (codes "0x" ++ first) (codes ".") (names-append (codes "0x") first (refl, (refl, tt)) (word-names (time / 2 ^ 32))) (refl, tt))
    (word-names (time % 2 ^ 32))

-- and its octets
pub length-stamp_text : (time : ℕ) → length (stamp_text time) ≡ 19
unfolding stamp_text encode_with
length-stamp_text time = refl

-- a mask in four digits
pub mask-names : (mask : ℕ) → AreNameOctets (mask_text mask)
mask-names mask =
    names-append (codes "0x") (encode_lower (to_be_bytes w16 mask)) (refl, (refl, tt))
    (encode-names (to_be_bytes w16 mask) (omega arith, (omega arith, tt)))

-- and its octets
pub length-mask_text : (mask : ℕ) → length (mask_text mask) ≡ 6
unfolding encode_with
length-mask_text mask = refl

-- a digit of flags
glyph-name : (k : ℕ) → k < 16 → is_name_octet (digit_char k) ≡ true
glyph-name k small = agree_below_at (λ i. is_name_octet (digit_char i)) (λ i. true) 16 k refl small

-- flags without leading zeros
pub flags-names : (flags : ℕ) → flags < 2 ^ 16 → AreNameOctets (flags_text flags)
unfolding hex
flags-names flags fits =
    names-append (codes "0x") (hex flags) (refl, (refl, tt))
    (names-drop (leading_zero_digits flags)
    (digit_char (flags / 0x1000) ∷ digit_char (flags / 0x100 % 16) ∷ digit_char (flags / 0x10 % 16) ∷ digit_char (flags % 16) ∷ []) (
      glyph-name (flags / 0x1000) (omega arith),
      (glyph-name (flags / 0x100 % 16) (omega arith), (glyph-name (flags / 0x10 % 16) (omega arith), (glyph-name (flags % 16) (omega arith), tt))),
    ))

-- an IPv4 address
dotted-name : (octet : ℕ) → IsDigitOrDot octet → is_name_octet octet ≡ true
dotted-name octet (inl range) = grind (arith, nat_tests)
dotted-name octet (inr dot) = grind (arith, nat_tests)

-- hexadecimal digits and colons
colon-name : (octet : ℕ) → IsHexOrColon octet → is_name_octet octet ≡ true
colon-name octet (inl range) = grind (arith, nat_tests)
colon-name octet (inr letter) = grind (arith, nat_tests)

-- where each octet is one, all are
names-from : (P : ℕ → Type 0) → ((octet : ℕ) → P octet → is_name_octet octet ≡ true) → (octets : List ℕ) → All P octets → AreNameOctets octets
names-from P each [] all = tt
names-from P each (x ∷ octets) all = (each x (All-head P x octets all), names-from P each octets (All-tail P x octets all))

-- octets that are all below 256 are so at each place
pub below : (octets : List ℕ) → All (λ octet. octet < 2 ^ 8) octets → (k : ℕ) → get_or octets k 0 < 2 ^ 8
below [] all k = omega arith
below (x ∷ octets) all zero = All-head (λ octet. octet < 2 ^ 8) x octets all
below (x ∷ octets) all (suc k) = below octets (All-tail (λ octet. octet < 2 ^ 8) x octets all) k

-- an address of either family as it stands before a port
host-names : (ip : Ip) → IsIp ip → AreNameOctets (before_port ip (ip_text ip))
unfolding ip_text
host-names (V4 octets) fits = names-from IsDigitOrDot dotted-name (ipv4_text octets) (All-ipv4_text octets (below octets fits.1))
host-names (V6 octets) fits =
    let groups = hex_groups_text (segments_of octets) in
    names-append (codes "[" ++ groups) (codes "]")
    (names-append (codes "[") groups (refl, tt) (names-from IsHexOrColon colon-name groups (All-hex_groups_text (segments_of octets) (AllSegments-segments_of octets fits.1))))
    (refl, tt)

-- an address with its port
pub addr-names : (addr : Addr) → IsAddr addr → AreNameOctets (text_of addr)
unfolding text_of
addr-names addr is =
    names-append (before_port addr.ip (ip_text addr.ip) ++ codes ":") (decimal addr.port)
    (names-append (before_port addr.ip (ip_text addr.ip)) (codes ":") (host-names addr.ip is.ip) (refl, tt))
    (decimal-names addr.port (omega (arith, is.port)))

-- an octet of a name is no separator
name-separator : (octet : ℕ) → is_name_octet octet ≡ true → is_separator octet ≡ false
name-separator octet is = grind (arith, nat_tests)

-- so they have none
names-separators : (octets : List ℕ) → AreNameOctets octets → list_any is_separator octets ≡ false
names-separators [] are = refl
names-separators (x ∷ octets) are = rw (name-separator x are.0) (names-separators octets are.1)

-- and stand without quotes
pub item_text-plain : (name value : List ℕ) → AreNameOctets value → item_text (valued name value) ≡ name ++ (codes "=" ++ value)
item_text-plain name value are = rw (names-separators value are) refl

-- an octet of a name is one of a value in quotes, and no white space
name-quoted : (octet : ℕ) → is_name_octet octet ≡ true → is_quoted_octet octet ≡ true
name-quoted octet is = grind (arith, nat_tests)

-- nor is it white space
name-black : (octet : ℕ) → is_name_octet octet ≡ true → is_white octet ≡ false
name-black octet is = grind (arith, nat_tests)

-- an octet of a bare value
name-bare : (octet : ℕ) → is_name_octet octet ≡ true → is_bare_octet octet ≡ true
name-bare octet is = grind (arith, nat_tests)

-- octets of names are all octets of values in quotes
quoted-from : (octets : List ℕ) → AreNameOctets octets → AllByRecursion (λ octet. is_quoted_octet octet ≡ true) octets
quoted-from [] are = tt
quoted-from (x ∷ octets) are = (name-quoted x are.0, quoted-from octets are.1)

-- and of bare values
bare-from : (octets : List ℕ) → AreNameOctets octets → AllByRecursion (λ octet. is_bare_octet octet ≡ true) octets
bare-from [] are = tt
bare-from (x ∷ octets) are = (name-bare x are.0, bare-from octets are.1)

-- the last of octets of names is one
last-name : (before : List ℕ) (octet : ℕ) → AreNameOctets (before ++ octet ∷ []) → is_name_octet octet ≡ true
last-name [] octet are = are.0
last-name (x ∷ before) octet are = last-name before octet are.1

-- octets of names are a value that stands bare
bare-value : (value : List ℕ) → AreNameOctets value → IsValueText (Bare value)
bare-value value are = (
  bare-from value are,
  record {
    begins = λ octet behind is. name-black octet (subst AreNameOctets is are).0;
    ends = λ before octet is. name-black octet (last-name before octet (subst AreNameOctets is are));
  },
)

-- an item with such a value is read back
pub writable-plain : (name value : List ℕ) → 0 < length name → AreNameOctets name → name ≢ codes "resp" → AreNameOctets value → IsWritable (valued name value)
writable-plain name value some names other are = record {
  some = some;
  name = names;
  value = (quoted-from value are, rw (names-separators value are) (bare-value value are));
  no_tag = other;
}
