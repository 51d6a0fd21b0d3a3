-- How a text or a number stands in a line of a report: our own rule, after the reports of NTP's query tool.
use Rattle.std.specs.Prelude.{ℕ, ◌-◌, List, ◌++◌, length, replicate}
use Rattle.byteorder.specs.Endian.{big_bytes}
use Rattle.hex.specs.Hex.{encode_lower}

-- a space
abbrev pub space : ℕ
space = 32

-- a text at the left of a column of so many octets, filled up with spaces; what is wider than its column stands whole
abbrev pub left_in : ℕ → List ℕ → List ℕ
left_in width text = text ++ replicate (width - length text) space

-- a text at the right of a column of so many octets, filled up with spaces; what is wider than its column stands whole
abbrev pub right_in : ℕ → List ℕ → List ℕ
right_in width text = replicate (width - length text) space ++ text

-- a word of 16 bits in four hexadecimal digits
abbrev pub hex_word : ℕ → List ℕ
hex_word word = encode_lower (big_bytes 2 word)
