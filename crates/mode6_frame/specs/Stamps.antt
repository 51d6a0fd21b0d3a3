-- Timestamps as values of items (RFC 5905, section 6, for the times; their form is NTPsec's).
use Rattle.std.specs.Prelude.{ℕ, ◌/◌, ◌%◌, ◌^◌, ◌==◌, Bool, ◌&&◌, if◌then◌else◌, Option, Some, None, List, ◌++◌, length, take, drop, codes, bytes_eq}
use Rattle.std.specs.List.{list_all}
use Rattle.std.specs.Int.{to_be_bytes, w32}
use Rattle.std.specs.Str.Parse.{digits_value}
use Rattle.hex.specs.Hex.{encode_lower, is_hex_digit}
use Rattle.mode6_frame.specs.declared.stamps.TheConstants.{STAMP_LEN}

-- the text of a timestamp of 32.32 seconds: eight hexadecimal digits of the seconds, a point, and eight of the fraction
unfoldable pub stamp_text : ℕ → List ℕ
stamp_text time =
    codes "0x" ++ encode_lower (to_be_bytes w32 (time / 2 ^ 32)) ++ codes "." ++ encode_lower (to_be_bytes w32 (time % 2 ^ 32))

-- the number of a text of hexadecimal digits of either case
abbrev pub hex_in : List ℕ → Option ℕ
hex_in digits = if list_all is_hex_digit digits then Some (digits_value 16 digits) else None

-- the sixteen digits of a text of this form
abbrev pub stamp_digits : List ℕ → List ℕ
stamp_digits text = take 8 (drop 2 text) ++ drop 11 text

-- a text has the length and the marks of this form
abbrev pub is_marked : List ℕ → Bool
is_marked text = (length text == STAMP_LEN) && bytes_eq (take 2 text) (codes "0x") && bytes_eq (take 1 (drop 10 text)) (codes ".")

-- the timestamp that a text tells so, with digits of either case
unfoldable pub stamp_in : List ℕ → Option ℕ
stamp_in text = if is_marked text then hex_in (stamp_digits text) else None
