-- Hexadecimal digits and the number that they tell, and the text of a timestamp.
use borrow.Rule.Slice.PartMut.{put_mid}
use Rattle.std.proofs.Common.{◌≡◌, ℕ, zero, suc, ◌+◌, ◌*◌, ◌/◌, ◌%◌, ◌^◌, ◌<◌, ◌≤◌, Bool, true, false, ◌&&◌, if◌then◌else◌, List, [], ◌∷◌, ◌++◌, length, take, drop, get_or, Option, Some, None, slice_index, refl, sym, ap, ◌∙◌, arith}
use Rattle.std.proofs.Math.Nat.{pow-le-pow_right, pow-suc}
use Rattle.std.proofs.lemmas.Bool.Decides.{nat_tests}
use Rattle.std.proofs.lemmas.Int.Digits.{digits_value_more, number_after_append}
use Rattle.std.proofs.lemmas.List.Folds.{list_all_more, list_all-append}
use Rattle.std.proofs.Common.{add-one, append-nil, length-append}
use Rattle.std.proofs.lemmas.List.{drop_all, length-drop, take_all, take-append-le}
use Rattle.std.specs.Char.{digit_value}
use Rattle.std.specs.Int.{w32, byte_at, to_be_bytes}
use Rattle.std.specs.Int.Digits.{number_from_digits_after}
use Rattle.std.specs.List.{AllByRecursion, list_all}
use Rattle.std.specs.Str.Parse.{digits_value, digits_value_after}
use Rattle.hex.proofs.HexLemmas.{IsDigits-lower_digits}
use Rattle.hex.specs.Hex.{encode_lower, encode_with, hex_digit_value, is_hex_digit, lower_digits}
use Rattle.mode6_frame.specs.Stamps.{hex_in, is_marked, stamp_digits, stamp_in, stamp_text}

-- a hexadecimal digit has its number
pub digit_value-hex : (c d : ℕ) → hex_digit_value c ≡ Some d → digit_value c ≡ d
digit_value-hex c d is = grind (arith, nat_tests)

-- so has one that is written
digit_value-lower : (d : ℕ) → d < 16 → digit_value (slice_index lower_digits d) ≡ d
digit_value-lower d small = digit_value-hex (slice_index lower_digits d) d (IsDigits-lower_digits d small)

-- and it is one
is_hex_digit-lower : (d : ℕ) → d < 16 → is_hex_digit (slice_index lower_digits d) ≡ true
is_hex_digit-lower d small = rw (IsDigits-lower_digits d small) refl

-- octets as digits are hexadecimal digits
pub list_all-encode : (octets : List ℕ) → AllByRecursion (λ octet. octet < 256) octets → list_all is_hex_digit (encode_lower octets) ≡ true
unfolding encode_with
list_all-encode [] are = refl
list_all-encode (octet ∷ octets) are =
    rw (is_hex_digit-lower (octet / 16) (omega (arith, are.0)), is_hex_digit-lower (octet % 16) (omega arith)) (list_all-encode octets are.1)

-- two digits are an octet
two_digits : (n octet high low : ℕ) → high ≡ octet / 16 → low ≡ octet % 16 → (n * 16 + high) * 16 + low ≡ n * 256 + octet
two_digits n octet high low is_high is_low = omega arith

-- and they tell the number of the octets
pub value-encode : (n : ℕ) (octets : List ℕ) → AllByRecursion (λ octet. octet < 256) octets
    → digits_value_after 16 n (encode_lower octets) ≡ number_from_digits_after 256 n octets
unfolding encode_with
value-encode n [] are = refl
value-encode n (octet ∷ octets) are =
    let high = digit_value-lower (octet / 16) (omega (arith, are.0)) in
    let low = digit_value-lower (octet % 16) (omega arith) in
    ap (λ m. digits_value_after 16 m (encode_lower octets)) (two_digits n octet _ _ high low) ∙ value-encode (n * 256 + octet) octets are.1

-- there is room for one more digit
pub room : (i number : ℕ) → i < 16 → number < 16 ^ i → number * 16 + 15 < 2 ^ 64
room i number few small =
    let most : 16 ^ i ≤ 16 ^ 15 = pow-le-pow_right {n = 16} (omega arith) {i = i} {j = 15} (omega arith) in
    omega (arith, most)

-- one more digit
pub more : (text : List ℕ) (i number digit : ℕ) → i < length text → list_all is_hex_digit (take i text) ≡ true → number ≡ digits_value 16 (take i text)
    → number < 16 ^ i → Some digit ≡ hex_digit_value (get_or text i 0) → digit < 16
    → (list_all is_hex_digit (take (i + 1) text) ≡ true) × (number * 16 + digit ≡ digits_value 16 (take (i + 1) text)) × (number * 16 + digit < 16 ^ (i + 1))
more text i number digit within all value small is few =
    let value_is : digit_value (get_or text i 0) ≡ digit = digit_value-hex (get_or text i 0) digit (sym is) in
    let is_one : is_hex_digit (get_or text i 0) ≡ true = rw (← is) refl in (
      rw (list_all_more is_hex_digit text i 0 within, all, is_one) refl,
      rw (digits_value_more 16 text i within, ← value, value_is) refl,
      rw (add-one, pow-suc) (omega arith),
    )

-- the octets of a word tell it
after-word : (n word : ℕ) → word < 2 ^ 32 → number_from_digits_after 256 n (to_be_bytes w32 word) ≡ n * 2 ^ 32 + word
after-word n word fits = omega arith

-- the octets of a word are octets
octets-word : (word : ℕ) → AllByRecursion (λ octet. octet < 256) (to_be_bytes w32 word)
octets-word word = (omega arith, (omega arith, (omega arith, (omega arith, tt))))

-- octets and octets
octets-append : (octets others : List ℕ) → AllByRecursion (λ octet. octet < 256) octets → AllByRecursion (λ octet. octet < 256) others
    → AllByRecursion (λ octet. octet < 256) (octets ++ others)
octets-append [] others are other = other
octets-append (x ∷ octets) others are other = (are.0, octets-append octets others are.1 other)

-- the digits of a timestamp's text are those of its eight octets
digits-stamp : (time : ℕ) → stamp_digits (stamp_text time) ≡ encode_lower (to_be_bytes w32 (time / 2 ^ 32) ++ to_be_bytes w32 (time % 2 ^ 32))
unfolding stamp_text encode_with
digits-stamp time = refl

-- it is marked as one
marked-stamp : (time : ℕ) → is_marked (stamp_text time) ≡ true
unfolding stamp_text encode_with
marked-stamp time = refl

-- the text of a timestamp tells it
pub stamp_in-text : (time : ℕ) → time < 2 ^ 64 → stamp_in (stamp_text time) ≡ Some time
unfolding stamp_in
stamp_in-text time fits =
    let high = to_be_bytes w32 (time / 2 ^ 32) in
    let low = to_be_bytes w32 (time % 2 ^ 32) in
    let octets : AllByRecursion (λ octet. octet < 256) (high ++ low) = octets-append high low (octets-word (time / 2 ^ 32)) (octets-word (time % 2 ^ 32)) in
    let value : digits_value_after 16 0 (encode_lower (high ++ low)) ≡ time =
    value-encode 0 (high ++ low) octets
    ∙ number_after_append 256 0 high low
    ∙ ap (λ n. number_from_digits_after 256 n low) (after-word 0 (time / 2 ^ 32) (omega arith))
    ∙ after-word (0 * 2 ^ 32 + time / 2 ^ 32) (time % 2 ^ 32) (omega arith)
    ∙ omega arith in
    rw (marked-stamp time, digits-stamp time, list_all-encode (high ++ low) octets, value) refl

-- sixteen digits in two halves
pub halves : (front back : List ℕ) → length front ≡ 8 → put_mid 8 8 (front ++ 0 ∷ 0 ∷ 0 ∷ 0 ∷ 0 ∷ 0 ∷ 0 ∷ 0 ∷ []) back ≡ front ++ back
halves front back eight =
    let zeros : List ℕ = 0 ∷ 0 ∷ 0 ∷ 0 ∷ 0 ∷ 0 ∷ 0 ∷ 0 ∷ [] in
    let begins : take 8 (front ++ zeros) ≡ front = take-append-le 8 front zeros (omega arith) ∙ take_all 8 front (omega arith) in
    let ends : drop 8 (drop 8 (front ++ zeros)) ≡ [] =
    drop_all 8 (drop 8 (front ++ zeros)) (omega (arith, length-drop 8 (front ++ zeros), length-append front zeros)) in
    rw begins (ap (λ rest. front ++ (back ++ rest)) ends ∙ ap (λ rest. front ++ rest) (append-nil back))
