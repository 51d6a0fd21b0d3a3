use Rattle.std.proofs.Common.{◌≡◌, ◌≤◌, take}
use Rattle.std.specs.List.{count_by}
use Rattle.mode6_frame.specs.declared.items.Item.{Item}
use Rattle.mru_items.specs.Names.{has_number}
use Rattle.mru_items.proofs.row_reading.count_numbered.Given as goal

abbrev pub invariant-loop-place : goal.invariant-loop-place
invariant-loop-place l = record {
  count : l.count ≡ count_by (λ (item : Item). has_number l.front item.name) (take l.place l.items);
  few : l.count ≤ l.place;
}
