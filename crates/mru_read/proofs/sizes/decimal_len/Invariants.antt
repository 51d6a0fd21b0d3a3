use Rattle.std.proofs.Common.{◌≡◌, ◌+◌, ◌≤◌, length, decimal}
use Rattle.mru_read.proofs.sizes.decimal_len.Given as goal

-- the digits that are counted are those that were cut off
abbrev pub invariant-loop-left : goal.invariant-loop-left
invariant-loop-left l = record {
  counted : l.digits + length (decimal l.left) ≡ 1 + length (decimal l.number);
  fits : l.left ≤ l.number;
}

abbrev pub decreases-loop-left : goal.decreases-loop-left
decreases-loop-left l = l.left
