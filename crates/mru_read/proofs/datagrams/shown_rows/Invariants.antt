use Rattle.std.proofs.Common.{◌≡◌, map, take}
use Rattle.mru_read.specs.Pages.{shown_row}
use Rattle.mru_read.proofs.datagrams.shown_rows.Given as goal

-- the rows before this one are told
abbrev pub invariant-loop-row : goal.invariant-loop-row
invariant-loop-row l = l.shown.items ≡ map (shown_row l.origin) (take l.row-index l.rows)
