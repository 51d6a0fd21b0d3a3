-- Sizes of pages by the lengths of their items' texts: private words of the code that reads pages.
use Rattle.std.specs.Prelude.{ℕ, ◌+◌, ◌≤◌, nat_le, Bool, ◌&&◌, if◌then◌else◌, min, Option, Some, option_map, List, [], ◌∷◌, ◌++◌, map, codes, replicate}
use Rattle.mode6_frame.specs.declared.items.Item.{Item}
use Rattle.mode6_frame.specs.declared.message.TheConstants.{MAX_BODY}
use Rattle.mode6_frame.specs.Cuts.{TAG_ITEM_LEN, has_room, lengths_of, parts_count}
use Rattle.mru_items.specs.declared.answer.TheConstants.{NONCE_OCTETS}
use Rattle.mru_items.specs.declared.pair.Pair.{Pair}
use Rattle.mru_items.specs.declared.query.ReadRequest.{ReadRequest}
use Rattle.mru_items.specs.declared.query.TheConstants.{MAX_FRAGS}
use Rattle.mru_items.specs.Answers.{older_items, row_items, rows_items, time_items}
use Rattle.mru_items.specs.Names.{valued}
use Rattle.mru_items.specs.Queries.{told_time}
use Rattle.mru_read.specs.declared.sizes.Measure.{Measure}
use Rattle.mru_read.specs.Pages.{is_within, shown_row, told_pair}
use Rattle.recency.specs.declared.row.Row.{Row}

-- the items before the rows of a page that confirms this pair
abbrev pub front_items : Option Pair → List Item
front_items confirmed = (valued (codes "nonce") (replicate NONCE_OCTETS 48) ∷ []) ++ older_items (option_map (told_pair 0) confirmed)

-- the items behind the rows of a page that ends a list whose newest client arrived last at this time
abbrev pub end_items : Option ℕ → List Item
end_items newest = time_items (codes "now") (Some 0) ++ time_items (codes "last.newest") (option_map (told_time 0) newest)

-- the lengths of the items before the rows
unfoldable pub front_lengths : Option Pair → List ℕ
front_lengths confirmed = lengths_of (front_items confirmed)

-- the lengths of the items of a row
unfoldable pub row_lengths : ℕ → Row → List ℕ
row_lengths number row = lengths_of (row_items number (shown_row 0 row))

-- the lengths of the items of rows, numbered from here on
unfoldable pub rows_lengths : ℕ → List Row → List ℕ
rows_lengths number rows = lengths_of (rows_items number (map (shown_row 0) rows))

-- the lengths of the items behind the rows of a page that ends the list
unfoldable pub end_lengths : Option ℕ → List ℕ
end_lengths newest = lengths_of (end_items newest)

-- the lengths of the items of a page with these rows that does not end the list
unfoldable pub lengths_with : Option Pair → List Row → List ℕ
lengths_with confirmed rows = front_lengths confirmed ++ rows_lengths 0 rows

-- a limit and a bound on datagrams allow so many rows with items of these lengths
abbrev pub is_allowed : ReadRequest → ℕ → List ℕ → Bool
is_allowed request count lengths = is_within request.limit count && nat_le (parts_count lengths) request.frags

-- no item yet: the part under way has its tag
abbrev pub no_items : Measure
no_items = record { plain = 0; used = TAG_ITEM_LEN; begun = 1 }

-- one more item: the plain text grows up to where it does not fit, and the item goes into the part under way or begins the
-- next, of which one more than may be asked for are counted
unfoldable pub one_more : Measure → ℕ → Measure
one_more m len = record {
  plain = min (m.plain + (2 + len)) (MAX_BODY + 1);
  used = if has_room (m.used + (2 + len)) then m.used + (2 + len) else TAG_ITEM_LEN + (2 + len);
  begun = if has_room (m.used + (2 + len)) then m.begun else min (m.begun + 1) (MAX_FRAGS + 1);
}

-- more items, by their lengths
abbrev pub measured : Measure → List ℕ → Measure
measured m [] = m
measured m (len ∷ lengths) = measured (one_more m len) lengths

-- how many parts the items make, as far as they are counted
abbrev pub parts_in : Measure → ℕ
parts_in m = if nat_le m.plain MAX_BODY then 1 else m.begun

-- a measure stays within its bounds
pub record IsMeasure (m : Measure) : Type 0 where
  pub plain : m.plain ≤ MAX_BODY + 1
  pub used : m.used ≤ MAX_BODY
  pub begun : m.begun ≤ MAX_FRAGS + 1
