use Rattle.std.proofs.Common.{◌≡◌, ◌++◌, drop}
use Rattle.mru_items.specs.Queries.{pair_items}
use Rattle.mru_items.proofs.query_writing.put_pairs.Given as goal

-- the items of what is left, behind what is written, are the items of the whole
abbrev pub invariant-loop-place : goal.invariant-loop-place
invariant-loop-place l =
    l.items.items ++ pair_items l.place (drop l.place l.pairs) ≡ l.fn.items.items ++ pair_items 0 l.pairs
