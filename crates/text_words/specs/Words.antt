-- Words of a line, separated by spaces and tabs, up to a comment: our own rule.
use Rattle.std.specs.Prelude.{ℕ, ◌==◌, nat_lt, Bool, false, not, bytes_eq, [], ◌∷◌, ◌||◌, List, length, filter, map}
use Rattle.std.specs.List.{before_first, slice_split}
use Rattle.text_words.specs.Lines.{lines_of}

-- a space or a tab
abbrev pub is_blank : ℕ → Bool
is_blank octet = octet == 32 || octet == 9

-- a number sign, which begins a comment
abbrev pub is_number_sign : ℕ → Bool
is_number_sign octet = octet == 35

-- an octet of a word
abbrev pub is_word_octet : ℕ → Bool
is_word_octet octet = not (is_blank octet || is_number_sign octet)

-- a part that isn't empty
abbrev pub is_some_octets : List ℕ → Bool
is_some_octets part = nat_lt 0 (length part)

-- the words of a line: the parts that aren't empty between the blanks before its first number sign
abbrev pub words_of : List ℕ → List (List ℕ)
words_of line = filter is_some_octets (slice_split is_blank (before_first is_number_sign line))

-- the lines of a text, each as its words
abbrev pub lines_as_words : List ℕ → List (List (List ℕ))
lines_as_words text = map words_of (lines_of text)

-- whether the first of these words has these octets
abbrev pub begins_with : List (List ℕ) → List ℕ → Bool
begins_with [] octets = false
begins_with (word ∷ words) octets = bytes_eq word octets
