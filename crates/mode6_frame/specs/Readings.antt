-- Which items are read of a text: our own words.
use Rattle.std.specs.Prelude.{ℕ, List, [], Option, option_and_then}
use Rattle.refusals.specs.Machines.{after}
use Rattle.mode6_frame.specs.declared.items.Item.{Item}
use Rattle.mode6_frame.specs.Items.{Blank}
use Rattle.mode6_frame.specs.ItemReader.{Within, item_reader, items_in}

-- the items of a text, to which its octets lead one after another, or none where it is no text of items
unfoldable pub items_read : List ℕ → Option (List Item)
items_read text = option_and_then items_in (after item_reader text (Within [] (Blank [])))
