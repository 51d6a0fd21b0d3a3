use Rattle.std.proofs.Common.{◌≡◌, ◌++◌, take, drop, vec_capacity, vec_len}
use Rattle.recency.specs.Rows.{told_rows}
use Rattle.recency.proofs.plain_list.tell_in.Given as goal

-- the rows before this place are told, the others are as they were
abbrev pub invariant-loop-place : goal.invariant-loop-place
invariant-loop-place l = record {
  told : l.rows.items ≡ told_rows (take l.place l.initial.rows.items) l.ip l.stamp ++ drop l.place l.initial.rows.items;
  len : vec_len l.rows ≡ vec_len l.initial.rows;
  capacity : vec_capacity l.rows ≡ vec_capacity l.initial.rows;
}
