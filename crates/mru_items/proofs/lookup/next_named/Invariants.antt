use Rattle.std.proofs.Common.{◌≡◌, ◌≤◌, ◌-◌, length, drop}
use Rattle.mru_items.specs.Names.{values_of}
use Rattle.mru_items.proofs.lookup.next_named.Given as goal

abbrev pub invariant-loop-at : goal.invariant-loop-at
invariant-loop-at l = record {
  within : l.at ≤ length l.items;
  skipped : values_of l.name (drop l.from l.items) ≡ values_of l.name (drop l.at l.items);
}

abbrev pub decreases-loop-at : goal.decreases-loop-at
decreases-loop-at l = length l.items - l.at
