use Rattle.std.proofs.Common.{◌≡◌, ◌≤◌, length}
use Rattle.std.specs.List.{AllByRecursion}
use Rattle.mru_items.specs.Answers.{IsShownRow}
use Rattle.mru_items.proofs.FoundLemmas.{AreFound}
use Rattle.mru_items.proofs.row_reading.rows_of.Given as goal

abbrev pub invariant-loop-number : goal.invariant-loop-number
invariant-loop-number l = record {
  place : l.place ≤ length l.items;
  count : length l.rows.items ≡ l.number;
  found : AreFound l.items 0 l.rows.items;
  fit : AllByRecursion IsShownRow l.rows.items;
}
