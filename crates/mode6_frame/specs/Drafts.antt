-- An answer under way, as the loop over its items sees it: what is still to come of it.
use Rattle.std.specs.Prelude.{ℕ, ◌+◌, true, false, List, [], ◌∷◌, ◌++◌, length, map, codes}
use Rattle.std.specs.List.{flat_map}
use Rattle.mode6_frame.specs.declared.items.Item.{Item}
use Rattle.mode6_frame.specs.declared.message.Head.{Head}
use Rattle.mode6_frame.specs.Cuts.{Part, part_frame, runs_after, laid}
use Rattle.mode6_frame.specs.Frames.{spelled_frame}
use Rattle.mode6_frame.specs.ItemTexts.{item_text}

-- items, each behind a comma and a space
abbrev pub spaced : List Item → List ℕ
spaced items = flat_map (λ item. codes ", " ++ item_text item) items

-- runs laid out from a place on, where the body of the first has these octets already
abbrev pub laid_after : ℕ → ℕ → List ℕ → List (List Item) → List Part
laid_after tag offset front [] = []
laid_after tag offset front (run ∷ []) =
    record { offset = offset; more = false; body = front ++ spaced run ++ codes "\r\n" } ∷ []
laid_after tag offset front (run ∷ next ∷ runs) =
    record { offset = offset; more = true; body = front ++ spaced run ++ codes ",\r\n" }
    ∷ laid tag (offset + length (front ++ spaced run ++ codes ",\r\n")) (next ∷ runs)

-- the parts that are to come where the body under way has these octets and these items are left
unfoldable pub parts_after : ℕ → ℕ → List ℕ → List Item → List Part
parts_after tag offset front items = laid_after tag offset front (runs_after (length front) items)

-- the datagrams of parts
abbrev pub grams_of : Head → List Part → List (List ℕ)
grams_of head parts = map (λ part. spelled_frame (part_frame head part)) parts
