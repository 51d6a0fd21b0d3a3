-- What stays so while a listing goes on.
use Rattle.std.specs.Prelude.{ℕ, ◌+◌, ◌≤◌, ◌<◌, ◌&&◌, nat_lt, Option, List, [], ◌∷◌, map}
use Rattle.std.specs.List.{AllByRecursion, filter}
use Rattle.mru_items.specs.declared.pair.Pair.{Pair}
use Rattle.mru_items.specs.declared.query.MruFilter.{MruFilter}
use Rattle.mru_items.specs.declared.shown.ShownRow.{ShownRow}
use Rattle.mru_items.specs.Queries.{ArePairsTold}
use Rattle.mru_read.specs.Histories.{list_at}
use Rattle.mru_read.specs.Pages.{passes, shown_row}
use Rattle.mrulist_coverage.specs.Coverage.{IsSublist, AreDistinct, WasShown}
use Rattle.mrulist_coverage.specs.Tellings.{Telling}
use Rattle.mrulist_reader.specs.Readers.{ReaderParts}
use Rattle.recency.specs.declared.row.Row.{Row}

-- the last arrivals of pairs rise
abbrev pub AreRisingPairs : List Pair → Type 0
AreRisingPairs [] = Unit {0}
AreRisingPairs (pair ∷ pairs) = AllByRecursion (λ later. pair.last < later.last) pairs × AreRisingPairs pairs

-- the rows of a list that pass and arrived before a stamp, as they are told
abbrev pub passing_before : ℕ → MruFilter → ℕ → List Row → List ShownRow
passing_before origin wanted mark rows = map (shown_row origin) (filter (λ row. passes wanted row && nat_lt row.last mark) rows)

-- Of the list at a place, all rows that pass and arrived before a mark are in the table, as they are told there and in their
-- order; the table has one row a client, each shown by a page; the pairs of the trail have rising stamps, all before the
-- mark, and the mark is at most the stamp behind the last one that was drawn.
pub record IsCovered (t : Telling) (places : List (Option ℕ)) (wanted : MruFilter) (r : ReaderParts) (place : ℕ) : Type 0 where
  pub mark : ℕ
  pub drawn : mark ≤ (list_at t.history place).stamp + 1
  pub all : IsSublist (passing_before t.origin wanted mark (list_at t.history place).rows) r.rows
  pub distinct : AreDistinct r.rows
  pub shown : AllByRecursion (WasShown t places) r.rows
  pub stamps : List Pair
  pub told : ArePairsTold t.origin stamps r.trail
  pub rising : AreRisingPairs stamps
  pub below : AllByRecursion (λ pair. pair.last < mark) stamps
