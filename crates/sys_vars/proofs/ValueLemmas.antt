-- The values of variables have no octet that would not be read back from a text.
use Rattle.std.proofs.Common.{◌≡◌, ◌<◌, ◌+◌, ◌/◌, ◌%◌, ◌^◌, inl, inr, ℕ, zero, suc, ℤ, pos, negsuc, Bool, true, false, List, [], ◌∷◌, ◌++◌, length, decimal, All, refl, sym, ap, subst, ◌∙◌, arith, length-append, append_assoc, Result, Ok, Err, OnOk}
use Rattle.std.specs.Prelude.{slice_index, get_or, ◌==◌, if◌then◌else◌, codes}
use Rattle.std.specs.Char.{is_ascii_alphanumeric}
use Rattle.std.specs.Fmt.{signed_decimal}
use Rattle.std.specs.Int.{to_be_bytes, w32}
use Rattle.std.specs.Int.Signed.{mag}
use Rattle.std.specs.List.{AllByRecursion, list_all}
use Rattle.std.specs.Net.Text.{ipv4_text, hex_groups_text}
use Rattle.std.specs.Net.Addr.{segments_of}
use Rattle.std.proofs.NetLemmas.Alphabet.{IsDigitOrDot, IsHexOrColon, All-ipv4_text, All-hex_groups_text}
use Rattle.std.proofs.lemmas.Bool.{agree_below_at}
use Rattle.std.proofs.lemmas.Bool.Decides.{nat_tests}
use Rattle.std.proofs.lemmas.Fmt.{decimal_by_steps}
use Rattle.std.proofs.lemmas.List.Elements.{All-head, All-tail}
use Rattle.hex.specs.Hex.{encode_with, encode_lower, lower_digits}
use Rattle.net_addr.specs.declared.addr.Ip.{Ip}
use Rattle.net_addr.specs.declared.addr.Ip.TheVariants.{V4, V6}
use Rattle.net_addr.specs.Addresses.{IsIp}
use Rattle.net_addr.specs.Spelling.{ip_text}
use Rattle.net_addr.proofs.GroupLemmas.{AllSegments-segments_of}
use Rattle.mode6_frame.specs.Items.{is_name_octet, is_white, AreNameOctets}
use Rattle.mode6_frame.specs.Stamps.{stamp_text}
use Rattle.sys_vars.specs.Texts.{IsWord, six_digits, millionths_text, reach_text}
use Rattle.sys_vars.specs.Variables.{is_value_octet, IsPlainValue}
use Rattle.sys_vars.proofs.ShortLemmas.{both}

-- octets of names, and more of them
pub names-append : (xs ys : List ℕ) → AreNameOctets xs → AreNameOctets ys → AreNameOctets (xs ++ ys)
names-append [] ys first second = second
names-append (x ∷ xs) ys first second = (first.0, names-append xs ys first.1 second)

-- a decimal digit is one
digit-name : (d : ℕ) → d < 10 → is_name_octet (48 + d) ≡ true
digit-name d small = grind (arith, nat_tests)

-- a number in decimal digits
pub decimal-names : (n : ℕ) → n < 2 ^ 64 → AreNameOctets (decimal n)
decimal-names n small =
    decimal_by_steps (λ m ds. AreNameOctets ds) (λ m one. (digit-name m one, tt))
    (λ m ds ten are. names-append ds ((48 + m % 10) ∷ []) are (digit-name (m % 10) (omega arith), tt)) n small

-- and with a sign
pub signed-names : (z : ℤ) → mag z < 2 ^ 63 → AreNameOctets (signed_decimal z)
signed-names (pos n) small = decimal-names n (omega (arith, small))
signed-names (negsuc n) small = (refl, decimal-names (suc n) (omega (arith, small)))

-- the last six digits of a number
six-names : (n : ℕ) → AreNameOctets (six_digits n)
six-names n = (
  digit-name (n / 100000 % 10) (omega arith),
  (
    digit-name (n / 10000 % 10) (omega arith),
    (
      digit-name (n / 1000 % 10) (omega arith),
      (digit-name (n / 100 % 10) (omega arith), (digit-name (n / 10 % 10) (omega arith), (digit-name (n % 10) (omega arith), tt))),
    ),
  ),
)

-- millionths as a decimal number are a word
pub millionths-word : (n : ℕ) → n < 2 ^ 64 → IsWord (millionths_text n)
millionths-word n small = (
  names-append (decimal (n / 1000000) ++ codes ".") (six_digits n)
      (names-append (decimal (n / 1000000)) (codes ".") (decimal-names (n / 1000000) (omega (arith, small))) (refl, tt)) (six-names n),
  omega (arith, length-append (decimal (n / 1000000) ++ codes ".") (six_digits n)),
)

-- and so are they behind a minus
pub sign_word : (is_shown : Bool) (text : List ℕ) → IsWord text → IsWord ((if is_shown then codes "-" else []) ++ text)
sign_word true text is = ((refl, is.0), omega arith)
sign_word false text is = is

-- octets in hexadecimal digits
hex_digit-name : (k : ℕ) → k < 16 → is_name_octet (slice_index lower_digits k) ≡ true
hex_digit-name k small = agree_below_at (λ i. is_name_octet (slice_index lower_digits i)) (λ i. true) 16 k refl small

-- each octet in two of them
pub encode-names : (octets : List ℕ) → AllByRecursion (λ octet. octet < 256) octets → AreNameOctets (encode_lower octets)
unfolding encode_with
encode-names [] are = tt
encode-names (x ∷ octets) are = (hex_digit-name (x / 16) (omega (arith, are.0)), (hex_digit-name (x % 16) (omega arith), encode-names octets are.1))

-- a word of 32 bits in eight of them
word-names : (n : ℕ) → AreNameOctets (encode_lower (to_be_bytes w32 n))
word-names n = encode-names (to_be_bytes w32 n) (omega arith, (omega arith, (omega arith, (omega arith, tt))))

-- a timestamp
pub stamp-names : (time : ℕ) → AreNameOctets (stamp_text time)
unfolding stamp_text
stamp-names time =
    let first = encode_lower (to_be_bytes w32 (time / 2 ^ 32)) in
    names-append (codes "0x" ++ first ++ codes ".") (encode_lower (to_be_bytes w32 (time % 2 ^ 32)))
    (names-append (codes "0x" ++ first) (codes ".") (names-append (codes "0x") first (refl, (refl, tt)) (word-names (time / 2 ^ 32))) (refl, tt))
    (word-names (time % 2 ^ 32))

-- a reach register
pub reach-names : (reach : ℕ) → AreNameOctets (reach_text reach)
unfolding reach_text
reach-names reach = (digit-name (reach / 64 % 8) (omega arith), (digit-name (reach / 8 % 8) (omega arith), (digit-name (reach % 8) (omega arith), tt)))

-- a code of letters and digits
letter-name : (octet : ℕ) → is_ascii_alphanumeric octet ≡ true → is_name_octet octet ≡ true
letter-name octet is = grind (arith, nat_tests)

-- letters and digits in a row
pub letters-names : (octets : List ℕ) → list_all is_ascii_alphanumeric octets ≡ true → AreNameOctets octets
letters-names [] all = tt
letters-names (x ∷ octets) all = (letter-name x (both _ _ all).0, letters-names octets (both _ _ all).1)

-- an IP address
dotted-name : (octet : ℕ) → IsDigitOrDot octet → is_name_octet octet ≡ true
dotted-name octet (inl range) = grind (arith, nat_tests)
dotted-name octet (inr dot) = grind (arith, nat_tests)

-- hexadecimal digits and colons
colon-name : (octet : ℕ) → IsHexOrColon octet → is_name_octet octet ≡ true
colon-name octet (inl range) = grind (arith, nat_tests)
colon-name octet (inr letter) = grind (arith, nat_tests)

-- where each octet is one, all are
names-from : (P : ℕ → Type 0) → ((octet : ℕ) → P octet → is_name_octet octet ≡ true) → (octets : List ℕ) → All P octets → AreNameOctets octets
names-from P each [] all = tt
names-from P each (x ∷ octets) all = (each x (All-head P x octets all), names-from P each octets (All-tail P x octets all))

-- an IPv4 address
pub ipv4-names : (octets : List ℕ) → ((k : ℕ) → get_or octets k 0 < 2 ^ 8) → AreNameOctets (ipv4_text octets)
ipv4-names octets fits = names-from IsDigitOrDot dotted-name (ipv4_text octets) (All-ipv4_text octets fits)

-- octets that are all below 256 are so at each place
below : (octets : List ℕ) → All (λ octet. octet < 2 ^ 8) octets → (k : ℕ) → get_or octets k 0 < 2 ^ 8
below [] all k = omega arith
below (x ∷ octets) all zero = All-head (λ octet. octet < 2 ^ 8) x octets all
below (x ∷ octets) all (suc k) = below octets (All-tail (λ octet. octet < 2 ^ 8) x octets all) k

-- an address of either family
pub ip-names : (ip : Ip) → IsIp ip → AreNameOctets (ip_text ip)
unfolding ip_text
ip-names (V4 octets) fits = ipv4-names octets (below octets fits.1)
ip-names (V6 octets) fits =
    names-from IsHexOrColon colon-name (hex_groups_text (segments_of octets)) (All-hex_groups_text (segments_of octets) (AllSegments-segments_of octets fits.1))

-- an octet of a name is one of a value, and no white space
name-value : (octet : ℕ) → is_name_octet octet ≡ true → is_value_octet octet ≡ true
name-value octet is = grind (arith, nat_tests)

-- nor is it white space
name-black : (octet : ℕ) → is_name_octet octet ≡ true → is_white octet ≡ false
name-black octet is = grind (arith, nat_tests)

-- octets of names are all octets of values
values-from : (octets : List ℕ) → AreNameOctets octets → AllByRecursion (λ octet. is_value_octet octet ≡ true) octets
values-from [] are = tt
values-from (x ∷ octets) are = (name-value x are.0, values-from octets are.1)

-- the last of octets of names is one
last-name : (before : List ℕ) (octet : ℕ) → AreNameOctets (before ++ octet ∷ []) → is_name_octet octet ≡ true
last-name [] octet are = are.0
last-name (x ∷ before) octet are = last-name before octet are.1

-- what ends with octets of names ends with one
last-of : (front piece before : List ℕ) (octet : ℕ) → 0 < length piece → AreNameOctets piece → front ++ piece ≡ before ++ octet ∷ [] → is_name_octet octet ≡ true
last-of [] piece before octet some are is = last-name before octet (subst AreNameOctets is are)
last-of (x ∷ front) piece [] octet some are is =
    let rest : front ++ piece ≡ [] = cc in
    absurd (omega (arith, some, length-append front piece, ap length rest))
last-of (x ∷ front) piece (y ∷ before) octet some are is =
    let rest : front ++ piece ≡ before ++ octet ∷ [] = cc in
    last-of front piece before octet some are rest

-- so octets of names are a value
pub IsPlainValue-names : (octets : List ℕ) → AreNameOctets octets → IsPlainValue octets
IsPlainValue-names octets are = record {
  octets = values-from octets are;
  trimmed = record {
    begins = λ octet behind is. name-black octet (subst AreNameOctets is are).0;
    ends = λ before octet is. name-black octet (last-name before octet (subst AreNameOctets is are));
  };
}

-- octets of values, and more of them
values-append : (xs ys : List ℕ) → AllByRecursion (λ octet. is_value_octet octet ≡ true) xs → AllByRecursion (λ octet. is_value_octet octet ≡ true) ys → AllByRecursion (λ octet. is_value_octet octet ≡ true) (xs ++ ys)
values-append [] ys first second = second
values-append (x ∷ xs) ys first second = (first.0, values-append xs ys first.1 second)

-- what begins as a value, and is not empty, begins without white space
begins-value : (text rest : List ℕ) → 0 < length text → IsPlainValue text → (octet : ℕ) (behind : List ℕ) → text ++ rest ≡ octet ∷ behind → is_white octet ≡ false
begins-value [] rest some is octet behind same = absurd (omega (arith, some))
begins-value (x ∷ text) rest some is octet behind same =
    let first : x ≡ octet = cc in
    subst (λ o. is_white o ≡ false) first (is.trimmed.begins x text refl)

-- a value, a space and a word are a value
value-word : (text piece : List ℕ) → 0 < length text → IsPlainValue text → IsWord piece → IsPlainValue ((text ++ codes " ") ++ piece)
value-word text piece some is word = record {
  octets = values-append (text ++ codes " ") piece (values-append text (codes " ") is.octets (refl, tt)) (values-from piece word.0);
  trimmed = record {
    begins = λ octet behind same. begins-value text (codes " " ++ piece) some is octet behind (sym (append_assoc text (codes " ") piece) ∙ same);
    ends = λ before octet same. name-black octet (last-of (text ++ codes " ") piece before octet word.1 word.0 same);
  };
}

-- one word more of a list of words, which are a value once there is one
pub words-more : (place : ℕ) (text gap piece more : List ℕ) → (place ≡ 0 → text ≡ []) → (0 < place → (0 < length text) × IsPlainValue text)
    → gap ≡ (if place == 0 then [] else codes " ") → IsWord piece → more ≡ (text ++ gap) ++ piece → (0 < length more) × IsPlainValue more
words-more zero text gap piece more empty begun gap_is word is =
    let none : text ++ gap ≡ [] = ap (λ (xs : List ℕ). xs ++ gap) (empty refl) ∙ gap_is in
    let all : more ≡ piece = is ∙ ap (λ (xs : List ℕ). xs ++ piece) none in
    subst (λ (xs : List ℕ). (0 < length xs) × IsPlainValue xs) (sym all) (word.1, IsPlainValue-names piece word.0)
words-more (suc place) text gap piece more empty begun gap_is word is =
    let before = begun (omega arith) in
    let test : (suc place == 0) ≡ false = grind (arith, nat_tests) in
    let space : gap ≡ codes " " = gap_is ∙ ap (λ (b : Bool). if b then [] else codes " ") test in
    let all : more ≡ (text ++ codes " ") ++ piece = is ∙ ap (λ (xs : List ℕ). (text ++ xs) ++ piece) space in
    subst (λ (xs : List ℕ). (0 < length xs) × IsPlainValue xs) (sym all)
    (omega (arith, word.1, length-append (text ++ codes " ") piece), value-word text piece before.0 before.1 word)

-- what holds anyway holds of what came out
pub on_ok : {A E : Type 0} (r : Result A E) (P : Type 0) → P → OnOk r P
on_ok (Ok x) P holds = holds
on_ok (Err e) P holds = tt

-- octets of names that are all that was written are a value
pub plain-written : (result items before text : List ℕ) → result ≡ items → items ≡ before ++ text → before ≡ [] → AreNameOctets text → IsPlainValue result
plain-written result items before text is written none are =
    subst IsPlainValue (sym (is ∙ written ∙ ap (λ (xs : List ℕ). xs ++ text) none)) (IsPlainValue-names text are)

-- octets of an array, each below 256
pub bytes-all : (octets : List ℕ) → ((i : ℕ) → get_or octets i 0 < 256) → AllByRecursion (λ octet. octet < 256) octets
bytes-all [] each = tt
bytes-all (x ∷ octets) each = (each 0, bytes-all octets (λ i. each (suc i)))

-- the step of a loop that writes words with a space between two
pub words-step : (place : ℕ) (text gap between piece more : List ℕ) → (place ≡ 0 → text ≡ []) → (0 < place → (0 < length text) × IsPlainValue text)
    → gap ≡ (if place == 0 then [] else codes " ") → between ≡ text ++ gap → IsWord piece → more ≡ between ++ piece → (0 < length more) × IsPlainValue more
words-step place text gap between piece more empty begun gap_is first word is =
    words-more place text gap piece more empty begun gap_is word (is ∙ ap (λ (xs : List ℕ). xs ++ piece) first)

-- and so does what follows from what holds of it
pub on_ok_then : {A E : Type 0} (r : Result A E) (P Q : Type 0) → OnOk r P → (P → Q) → OnOk r Q
on_ok_then (Ok x) P Q holds follows = follows holds
on_ok_then (Err e) P Q holds follows = tt
