-- How many octets the texts of a page's items have: no value of theirs stands in quotes.
use Rattle.std.proofs.Common.{◌≡◌, ◌≤◌, ◌<◌, ◌+◌, ◌-◌, ◌*◌, ◌/◌, ◌%◌, ◌^◌, inl, inr, ℕ, zero, suc, false, List, [], ◌∷◌, ◌++◌, length, decimal, All, Some, None, refl, sym, ap, ◌∙◌, arith, length-append}
use Rattle.std.specs.Prelude.{slice_index, drop, take, flat_map, nat_lt, codes}
use Rattle.std.specs.Char.{digit_char}
use Rattle.std.specs.Int.{to_be_bytes, w32}
use Rattle.std.specs.List.{AllByRecursion, list_any}
use Rattle.std.specs.Net.Text.{compressed_text, groups_text, hex, ipv4_text, hex_groups_text, leading_zero_digits, longest_zero_run}
use Rattle.std.specs.Net.Addr.{segments_of}
use Rattle.std.proofs.NetLemmas.Alphabet.{IsDigitOrDot, IsHexOrColon, All-ipv4_text, All-hex_groups_text}
use Rattle.std.proofs.lemmas.Bool.{agree_below_at}
use Rattle.std.proofs.lemmas.Bool.Decides.{nat_tests}
use Rattle.std.proofs.lemmas.Fmt.{decimal_by_steps, length-decimal-le}
use Rattle.std.proofs.lemmas.List.{length-drop, length-take}
use Rattle.std.proofs.lemmas.Bool.{cond_both}
use Rattle.std.proofs.lemmas.List.Elements.{All-head, All-tail}
use Rattle.hex.specs.Hex.{encode_with, encode_lower, lower_digits}
use Rattle.hex.proofs.HexLemmas.{length-encode_with}
use Rattle.net_addr.specs.declared.addr.Addr.{Addr}
use Rattle.net_addr.specs.declared.addr.Ip.{Ip}
use Rattle.net_addr.specs.declared.addr.Ip.TheVariants.{V4, V6}
use Rattle.net_addr.specs.Addresses.{IsAddr, IsIp}
use Rattle.net_addr.specs.Spelling.{before_port, ip_text, text_of}
use Rattle.net_addr.proofs.GroupLemmas.{AllSegments-segments_of, length-segments_of, octets-below}
use Rattle.mode6_frame.specs.ItemTexts.{is_separator, item_text}
use Rattle.mode6_frame.specs.Stamps.{stamp_text}
use Rattle.mru_items.specs.Names.{numbered, valued}
use Rattle.mru_items.specs.Values.{flags_text}
use Rattle.mru_items.specs.declared.pair.Pair.{Pair}
use Rattle.mru_read.specs.declared.sizes.Measure.{Measure}
use Rattle.mru_read.specs.Sizes.{end_lengths, front_lengths, measured, one_more, row_lengths}
use Rattle.recency.specs.declared.row.Row.{Row}

-- octets that are neither spaces nor commas
abbrev pub IsPlain : List ℕ → Type 0
IsPlain octets = AllByRecursion (λ octet. is_separator octet ≡ false) octets

-- so no value of them stands in quotes
any-none : (octets : List ℕ) → IsPlain octets → list_any is_separator octets ≡ false
any-none [] plain = refl
any-none (x ∷ octets) plain = rw plain.0 (any-none octets plain.1)

-- its text is the name, an equals sign and the value
pub length-valued : (name value : List ℕ) → list_any is_separator value ≡ false → length (item_text (valued name value)) ≡ length name + (1 + length value)
length-valued name value none = rw none (omega (arith, length-append name (61 ∷ value)))

pub length-plain : (name value : List ℕ) → IsPlain value → length (item_text (valued name value)) ≡ length name + (1 + length value)
length-plain name value plain = length-valued name value (any-none value plain)

-- plain octets, and more of them
pub plain-append : (xs ys : List ℕ) → IsPlain xs → IsPlain ys → IsPlain (xs ++ ys)
plain-append [] ys first second = second
plain-append (x ∷ xs) ys first second = (first.0, plain-append xs ys first.1 second)

plain-drop : (n : ℕ) (xs : List ℕ) → IsPlain xs → IsPlain (drop n xs)
plain-drop zero xs plain = plain
plain-drop (suc n) [] plain = tt
plain-drop (suc n) (x ∷ xs) plain = plain-drop n xs plain.1

-- a decimal digit
digit-plain : (d : ℕ) → d < 10 → is_separator (48 + d) ≡ false
digit-plain d small = grind (arith, nat_tests)

pub decimal-plain : (n : ℕ) → n < 2 ^ 64 → IsPlain (decimal n)
decimal-plain n small =
    decimal_by_steps (λ m ds. IsPlain ds) (λ m one. (digit-plain m one, tt))
    (λ m ds ten are. plain-append ds ((48 + m % 10) ∷ []) are (digit-plain (m % 10) (omega arith), tt)) n small

-- a hexadecimal digit
hex_digit-plain : (k : ℕ) → k < 16 → is_separator (slice_index lower_digits k) ≡ false
hex_digit-plain k small = agree_below_at (λ i. is_separator (slice_index lower_digits i)) (λ i. false) 16 k refl small

digit_char-plain : (k : ℕ) → k < 16 → is_separator (digit_char k) ≡ false
digit_char-plain k small = agree_below_at (λ i. is_separator (digit_char i)) (λ i. false) 16 k refl small

pub hex-plain : (n : ℕ) → n < 2 ^ 16 → IsPlain (hex n)
unfolding hex
hex-plain n small =
    plain-drop (leading_zero_digits n) _
    (digit_char-plain (n / 0x1000) (omega arith), (digit_char-plain (n / 0x100 % 16) (omega arith), (digit_char-plain (n / 0x10 % 16) (omega arith), (digit_char-plain (n % 16) (omega arith), tt))))

pub length-hex : (n : ℕ) → length (hex n) ≡ 4 - leading_zero_digits n
unfolding hex
length-hex n = length-drop (leading_zero_digits n) (digit_char (n / 0x1000) ∷ digit_char (n / 0x100 % 16) ∷ digit_char (n / 0x10 % 16) ∷ digit_char (n % 16) ∷ [])

encode-plain : (octets : List ℕ) → AllByRecursion (λ octet. octet < 256) octets → IsPlain (encode_lower octets)
unfolding encode_with
encode-plain [] are = tt
encode-plain (x ∷ octets) are = (hex_digit-plain (x / 16) (omega (arith, are.0)), (hex_digit-plain (x % 16) (omega arith), encode-plain octets are.1))

word-plain : (n : ℕ) → IsPlain (encode_lower (to_be_bytes w32 n))
word-plain n = encode-plain (to_be_bytes w32 n) (omega arith, (omega arith, (omega arith, (omega arith, tt))))

-- a timestamp
pub stamp-plain : (time : ℕ) → IsPlain (stamp_text time)
unfolding stamp_text
stamp-plain time =
    let first = encode_lower (to_be_bytes w32 (time / 2 ^ 32)) in
    plain-append (codes "0x" ++ first ++ codes ".") (encode_lower (to_be_bytes w32 (time % 2 ^ 32)))
    (plain-append (codes "0x" ++ first) (codes ".") (plain-append (codes "0x") first (refl, (refl, tt)) (word-plain (time / 2 ^ 32))) (refl, tt))
    (word-plain (time % 2 ^ 32))

pub length-stamp : (time : ℕ) → length (stamp_text time) ≡ 19
unfolding stamp_text
length-stamp time =
    let first = to_be_bytes w32 (time / 2 ^ 32) in
    let second = to_be_bytes w32 (time % 2 ^ 32) in
    omega (
      arith,
      length-append (codes "0x" ++ encode_lower first ++ codes ".") (encode_lower second),
      length-append (codes "0x" ++ encode_lower first) (codes "."),
      length-append (codes "0x") (encode_lower first),
      length-encode_with lower_digits first,
      length-encode_with lower_digits second,
    )

-- an address
dotted-plain : (octet : ℕ) → IsDigitOrDot octet → is_separator octet ≡ false
dotted-plain octet (inl range) = grind (arith, nat_tests)
dotted-plain octet (inr dot) = grind (arith, nat_tests)

colon-plain : (octet : ℕ) → IsHexOrColon octet → is_separator octet ≡ false
colon-plain octet (inl range) = grind (arith, nat_tests)
colon-plain octet (inr letter) = grind (arith, nat_tests)

plain-from : (P : ℕ → Type 0) → ((octet : ℕ) → P octet → is_separator octet ≡ false) → (octets : List ℕ) → All P octets → IsPlain octets
plain-from P each [] all = tt
plain-from P each (x ∷ octets) all = (each x (All-head P x octets all), plain-from P each octets (All-tail P x octets all))

ip-plain : (ip : Ip) → IsIp ip → IsPlain (before_port ip (ip_text ip))
unfolding ip_text
ip-plain (V4 octets) fits = plain-from IsDigitOrDot dotted-plain (ipv4_text octets) (All-ipv4_text octets (octets-below octets fits.1))
ip-plain (V6 octets) fits =
    let text = hex_groups_text (segments_of octets) in
    plain-append (codes "[" ++ text) (codes "]")
    (plain-append (codes "[") text (refl, tt) (plain-from IsHexOrColon colon-plain text (All-hex_groups_text (segments_of octets) (AllSegments-segments_of octets fits.1))))
    (refl, tt)

pub addr-plain : (a : Addr) → IsAddr a → IsPlain (text_of a)
unfolding text_of
addr-plain a is =
    let host = before_port a.ip (ip_text a.ip) in
    plain-append (host ++ codes ":") (decimal a.port) (plain-append host (codes ":") (ip-plain a.ip is.ip) (refl, tt)) (decimal-plain a.port (omega (arith, is.port)))

-- the item of a timestamp
pub length-stamp_item : (name : List ℕ) (time : ℕ) → length (item_text (valued name (stamp_text time))) ≡ length name + 20
length-stamp_item name time = omega (arith, length-plain name (stamp_text time) (stamp-plain time), length-stamp time)

-- the items of numbered names
pub length-numbered : (word : List ℕ) (number : ℕ) → length (numbered word number) ≡ length word + 1 + length (decimal number)
length-numbered word number = omega (arith, length-append (word ++ codes ".") (decimal number), length-append word (codes "."))

-- lists of two, three and six numbers
six-same : (a b c d e f s t u v w x : ℕ) → a ≡ s → b ≡ t → c ≡ u → d ≡ v → e ≡ w → f ≡ x → a ∷ b ∷ c ∷ d ∷ e ∷ f ∷ [] ≡ s ∷ t ∷ u ∷ v ∷ w ∷ x ∷ []
six-same a b c d e f s t u v w x p q r k l m = λ i. p i ∷ q i ∷ r i ∷ k i ∷ l i ∷ m i ∷ []

-- the address of a row
abbrev pub addr_of : Row → Addr
addr_of row = record { ip = row.ip; port = row.port }

-- the lengths of the six items of a row
pub row-lengths : (number : ℕ) (row : Row) → IsAddr (addr_of row) → row.count < 2 ^ 64 → row.mv < 2 ^ 64 → row.flags < 2 ^ 16
    → row_lengths number row
    ≡ (6 + length (decimal number) + length (text_of (addr_of row)))
    ∷ (25 + length (decimal number))
    ∷ (26 + length (decimal number))
    ∷ (4 + length (decimal number) + length (decimal row.count))
    ∷ (4 + length (decimal number) + length (decimal row.mv))
    ∷ (6 + length (decimal number) + length (hex row.flags))
    ∷ []
unfolding row_lengths
row-lengths number row addr count mv flags =
    six-same _ _ _ _ _ _ _ _ _ _ _ _
    (omega (arith, length-plain (numbered (codes "addr") number) (text_of (addr_of row)) (addr-plain (addr_of row) addr), length-numbered (codes "addr") number))
    (omega (arith, length-stamp_item (numbered (codes "last") number) ((0 + row.last) % 2 ^ 64), length-numbered (codes "last") number))
    (omega (arith, length-stamp_item (numbered (codes "first") number) ((0 + row.first) % 2 ^ 64), length-numbered (codes "first") number))
    (omega (arith, length-plain (numbered (codes "ct") number) (decimal row.count) (decimal-plain row.count count), length-numbered (codes "ct") number))
    (omega (arith, length-plain (numbered (codes "mv") number) (decimal row.mv) (decimal-plain row.mv mv), length-numbered (codes "mv") number))
    (omega (arith, length-plain (numbered (codes "rs") number) (flags_text row.flags) (plain-append (codes "0x") (hex row.flags) (refl, (refl, tt)) (hex-plain row.flags flags)), length-numbered (codes "rs") number))

-- the measure with the items of a row
pub row-measured : (m m1 m2 m3 m4 m5 m6 : Measure) (number : ℕ) (row : Row) (digits addr count mv flags : ℕ)
    → digits ≡ length (decimal number) → addr ≡ length (text_of (addr_of row)) → count ≡ length (decimal row.count) → mv ≡ length (decimal row.mv) → flags ≡ length (hex row.flags)
    → IsAddr (addr_of row) → row.count < 2 ^ 64 → row.mv < 2 ^ 64 → row.flags < 2 ^ 16
    → m1 ≡ one_more m (6 + digits + addr) → m2 ≡ one_more m1 (6 + digits + 19) → m3 ≡ one_more m2 (7 + digits + 19) → m4 ≡ one_more m3 (4 + digits + count)
    → m5 ≡ one_more m4 (4 + digits + mv) → m6 ≡ one_more m5 (6 + digits + flags) → m6 ≡ measured m (row_lengths number row)
row-measured m m1 m2 m3 m4 m5 m6 number row digits addr count mv flags is_digits is_addr is_count is_mv is_flags fits fits_count fits_mv fits_flags one two three four five six =
    let all : m6 ≡ measured m ((6 + digits + addr) ∷ (6 + digits + 19) ∷ (7 + digits + 19) ∷ (4 + digits + count) ∷ (4 + digits + mv) ∷ (6 + digits + flags) ∷ []) =
    six ∙ ap (λ (n : Measure). one_more n (6 + digits + flags)) (five ∙ ap (λ (n : Measure). one_more n (4 + digits + mv)) (four ∙ ap (λ (n : Measure). one_more n (4 + digits + count))
    (three ∙ ap (λ (n : Measure). one_more n (7 + digits + 19)) (two ∙ ap (λ (n : Measure). one_more n (6 + digits + 19)) one)))) in
    let same : (6 + digits + addr) ∷ (6 + digits + 19) ∷ (7 + digits + 19) ∷ (4 + digits + count) ∷ (4 + digits + mv) ∷ (6 + digits + flags) ∷ [] ≡ row_lengths number row =
    six-same _ _ _ _ _ _ _ _ _ _ _ _ (omega (arith, is_digits, is_addr)) (omega (arith, is_digits)) (omega (arith, is_digits)) (omega (arith, is_digits, is_count)) (omega (arith, is_digits, is_mv)) (omega (arith, is_digits, is_flags))
    ∙ sym (row-lengths number row fits fits_count fits_mv fits_flags) in
    all ∙ ap (measured m) same

-- the items before the rows
pub front-none : front_lengths None ≡ 30 ∷ []
unfolding front_lengths
front-none = refl

pub front-some : (pair : Pair) → IsAddr pair.addr → front_lengths (Some pair) ≡ 30 ∷ (11 + length (text_of pair.addr)) ∷ 30 ∷ []
unfolding front_lengths
front-some pair is = λ i. 30 ∷ addr i ∷ last i ∷ []
  where
    addr : length (item_text (valued (codes "addr.older") (text_of pair.addr))) ≡ 11 + length (text_of pair.addr)
    addr = omega (arith, length-plain (codes "addr.older") (text_of pair.addr) (addr-plain pair.addr is))

    last : length (item_text (valued (codes "last.older") (stamp_text ((0 + pair.last) % 2 ^ 64)))) ≡ 30
    last = omega (arith, length-stamp_item (codes "last.older") ((0 + pair.last) % 2 ^ 64))

-- and behind them
pub end-none : end_lengths None ≡ 23 ∷ []
unfolding end_lengths
end-none = λ i. length-stamp_item (codes "now") 0 i ∷ []

pub end-some : (newest : ℕ) → end_lengths (Some newest) ≡ 23 ∷ 31 ∷ []
unfolding end_lengths
end-some newest = λ i. length-stamp_item (codes "now") 0 i ∷ length-stamp_item (codes "last.newest") ((0 + newest) % 2 ^ 64) i ∷ []

-- an address has few octets
hex-short : (n : ℕ) → length (hex n) ≤ 4
hex-short n = omega (arith, length-hex n)

colons-short : (segments : List ℕ) → length (flat_map (λ t. codes ":" ++ hex t) segments) ≤ 5 * length segments
colons-short [] = omega arith
colons-short (s ∷ segments) =
    omega (arith, length-append (codes ":" ++ hex s) (flat_map (λ t. codes ":" ++ hex t) segments), hex-short s, colons-short segments)

groups-short : (segments : List ℕ) → length (groups_text segments) ≤ 5 * length segments
groups-short [] = omega arith
groups-short (s ∷ segments) = omega (arith, length-append (hex s) (flat_map (λ t. codes ":" ++ hex t) segments), hex-short s, colons-short segments)

compressed-short : (segments : List ℕ) (begin run : ℕ) → length (compressed_text segments (begin, run)) ≤ 10 * length segments + 2
compressed-short segments begin run =
    cond_both (nat_lt 1 run) (groups_text (take begin segments) ++ codes "::" ++ groups_text (drop (begin + run) segments)) (groups_text segments) (λ (text : List ℕ). length text ≤ 10 * length segments + 2)
    (λ _. omega (
      arith,
      length-append (groups_text (take begin segments) ++ codes "::") (groups_text (drop (begin + run) segments)),
      length-append (groups_text (take begin segments)) (codes "::"),
      groups-short (take begin segments),
      groups-short (drop (begin + run) segments),
      length-take begin segments,
      length-drop (begin + run) segments,
    ))
    (λ _. omega (arith, groups-short segments))

pub ip-short : (ip : Ip) → IsIp ip → length (before_port ip (ip_text ip)) ≤ 84
unfolding ip_text hex_groups_text
ip-short (V4 octets) fits =
    let octet : (k : ℕ) → length (decimal (slice_index octets k)) ≤ 3 = λ k. length-decimal-le 3 (slice_index octets k) (omega arith) (omega (arith, octets-below octets fits.1 k)) (omega (arith, octets-below octets fits.1 k)) in
    let one = decimal (slice_index octets 0) ++ codes "." ++ decimal (slice_index octets 1) in
    let two = one ++ codes "." ++ decimal (slice_index octets 2) in
    omega (
      arith,
      length-append (two ++ codes ".") (decimal (slice_index octets 3)),
      length-append two (codes "."),
      length-append (one ++ codes ".") (decimal (slice_index octets 2)),
      length-append one (codes "."),
      length-append (decimal (slice_index octets 0) ++ codes ".") (decimal (slice_index octets 1)),
      length-append (decimal (slice_index octets 0)) (codes "."),
      octet 0,
      octet 1,
      octet 2,
      octet 3,
    )
ip-short (V6 octets) fits =
    let segments = segments_of octets in
    let run = longest_zero_run segments in
    let text = compressed_text segments run in
    omega (
      arith,
      length-append (codes "[" ++ text) (codes "]"),
      length-append (codes "[") text,
      compressed-short segments run.0 run.1,
      length-segments_of 8 octets fits.0,
    )

pub addr-short : (a : Addr) → IsAddr a → length (text_of a) ≤ 90
unfolding text_of
addr-short a is =
    let host = before_port a.ip (ip_text a.ip) in
    omega (
      arith,
      length-append (host ++ codes ":") (decimal a.port),
      length-append host (codes ":"),
      ip-short a.ip is.ip,
      length-decimal-le 5 a.port (omega arith) (omega (arith, is.port)) (omega (arith, is.port)),
    )
