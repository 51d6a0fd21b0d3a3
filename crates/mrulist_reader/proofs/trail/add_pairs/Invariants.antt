use Rattle.std.proofs.Common.{◌≡◌, ◌++◌, map, take}
use Rattle.mrulist_reader.specs.Readers.{pair_of}
use Rattle.mrulist_reader.proofs.trail.add_pairs.Given as goal

abbrev pub invariant-loop-row : goal.invariant-loop-row
invariant-loop-row l = l.trail.items ≡ l.fn.trail.items ++ map pair_of (take l.row-index l.rows)
