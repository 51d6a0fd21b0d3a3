use Rattle.std.proofs.Common.{◌≡◌, ◌++◌, drop}
use Rattle.mru_items.specs.Answers.{rows_items}
use Rattle.mru_items.proofs.answer_writing.put_rows.Given as goal

-- the items of what is left, behind what is written, are the items of the whole
abbrev pub invariant-loop-number : goal.invariant-loop-number
invariant-loop-number l =
    l.items.items ++ rows_items l.number (drop l.number l.rows) ≡ l.fn.items.items ++ rows_items 0 l.rows
