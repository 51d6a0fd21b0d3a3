-- Lines of a text, each up to a line feed: our own rule.
use Rattle.std.specs.Prelude.{ℕ, ◌-◌, ◌==◌, if◌then◌else◌, Bool, true, false, List, [], ◌∷◌, length, take, slice_index}
use Rattle.std.specs.List.{slice_split}

-- a line feed
abbrev pub is_line_feed : ℕ → Bool
is_line_feed octet = octet == 10

-- the octets less a carriage return at their end
abbrev pub without_return : List ℕ → List ℕ
without_return line = if slice_index line (length line - 1) == 13 then take (length line - 1) line else line

-- the parts of a text, each but the last less a carriage return at its end
abbrev pub ended_by_line_feeds : List (List ℕ) → List (List ℕ)
ended_by_line_feeds [] = []
ended_by_line_feeds (last ∷ []) = last ∷ []
ended_by_line_feeds (part ∷ next ∷ parts) = without_return part ∷ ended_by_line_feeds (next ∷ parts)

-- the lines of a text: what stands between its line feeds, a carriage return before each dropped
abbrev pub lines_of : List ℕ → List (List ℕ)
lines_of text = ended_by_line_feeds (slice_split is_line_feed text)

-- the lines that are left: none where they are over
abbrev pub lines_left : Bool → List ℕ → List (List ℕ)
lines_left true text = []
lines_left false text = lines_of text
