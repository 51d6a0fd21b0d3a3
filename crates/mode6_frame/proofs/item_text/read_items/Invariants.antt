use Rattle.std.proofs.Common.{◌≡◌, ◌-◌, ◌≤◌, length, take, [], Some}
use Rattle.refusals.specs.Machines.{after}
use Rattle.mode6_frame.specs.Items.{Blank}
use Rattle.mode6_frame.specs.ItemReader.{item_reader, Within}
use Rattle.mode6_frame.proofs.item_text.read_items.Given as goal

-- the slots before this one are closed, and these are their items
abbrev pub invariant-slots : goal.invariant-slots
invariant-slots l = record {
  within : l.at ≤ length l.text;
  led : after item_reader (take l.at l.text) (Within [] (Blank [])) ≡ Some (Within l.items.items (Blank []));
}

abbrev pub decreases-slots : goal.decreases-slots
decreases-slots l = length l.text - l.at
