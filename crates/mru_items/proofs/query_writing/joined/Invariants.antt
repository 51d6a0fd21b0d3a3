use Rattle.std.proofs.Common.{◌≡◌, ◌++◌, drop, codes}
use Rattle.std.specs.List.{flat_map, join_by}
use Rattle.mode6_frame.specs.ItemTexts.{item_text}
use Rattle.mru_items.proofs.query_writing.joined.Given as goal

-- the text of what is left, behind what is written, is the text of the whole
abbrev pub invariant-loop-place : goal.invariant-loop-place
invariant-loop-place l =
    l.text.items ++ flat_map (λ item. codes ", " ++ item_text item) (drop l.place l.items) ≡ join_by item_text (codes ", ") l.items
