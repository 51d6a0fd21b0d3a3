-- Values of items in a read of the client list and in its answer: numbers, flags, addresses (our own rule, after NTPsec).
use Rattle.std.specs.Prelude.{◌≡◌, ℕ, ◌^◌, ◌≤◌, ◌==◌, nat_le, nat_lt, true, ◌&&◌, if◌then◌else◌, Option, Some, None, List, ◌++◌, length, take, drop, codes, decimal, bytes_eq}
use Rattle.std.specs.List.{list_all}
use Rattle.std.specs.Str.Parse.{digits_value}
use Rattle.std.specs.Int.{to_be_bytes, w16}
use Rattle.hex.specs.Hex.{encode_lower, is_hex_digit}
use Rattle.std.specs.Net.Text.{hex}

-- a value is a number from least to most in decimal, without leading zeros
abbrev pub number_in : ℕ → ℕ → List ℕ → Option ℕ
number_in least most text =
    if bytes_eq text (decimal (digits_value 10 text)) && nat_le least (digits_value 10 text) && nat_le (digits_value 10 text) most
    then Some (digits_value 10 text) else None

-- flags as an answer tells them: `0x`, and hexadecimal digits without leading zeros
abbrev pub flags_text : ℕ → List ℕ
flags_text flags = codes "0x" ++ hex flags

-- the flags that an answer tells so, with digits of either case
abbrev pub flags_in : List ℕ → Option ℕ
flags_in text =
    if bytes_eq (take 2 text) (codes "0x") && list_all is_hex_digit (drop 2 text)
    && (length (drop 2 text) == length (hex (digits_value 16 (drop 2 text)))) && nat_lt (digits_value 16 (drop 2 text)) (2 ^ 16)
    then Some (digits_value 16 (drop 2 text)) else None

-- a mask as a request tells it: `0x`, and one to four hexadecimal digits of either case
pub record SpellsMask (text : List ℕ) (mask : ℕ) : Type 0 where
  pub digits : List ℕ
  pub spelled : text ≡ codes "0x" ++ digits
  pub each : list_all is_hex_digit digits ≡ true
  pub some : 1 ≤ length digits
  pub few : length digits ≤ 4
  pub value : digits_value 16 digits ≡ mask

-- a mask as a request tells it: `0x`, and its four hexadecimal digits of lower case
abbrev pub mask_text : ℕ → List ℕ
mask_text mask = codes "0x" ++ encode_lower (to_be_bytes w16 mask)

-- the digits of a mask: one to four octets behind `0x`
abbrev pub mask_digits : List ℕ → Option (List ℕ)
mask_digits text =
    if bytes_eq (take 2 text) (codes "0x") && nat_le 1 (length (drop 2 text)) && nat_le (length (drop 2 text)) 4 then Some (drop 2 text) else None

-- what there is of a kind: this one, and no other, or none
abbrev pub IsExactly : {A : Type 0} → (A → Type 0) → Option A → Type 0
IsExactly {A} Is (Some it) = Is it × ((other : A) → Is other → it ≡ other)
IsExactly {A} Is None = (other : A) → ¬ (Is other)
