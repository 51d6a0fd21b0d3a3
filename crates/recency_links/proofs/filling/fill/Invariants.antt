use Rattle.std.proofs.Common.{◌≡◌, ◌≤◌, ◌+◌, [], length, vec_capacity, vec_len}
use Rattle.recency_links.specs.Lists.{IsListed}
use Rattle.recency_links.proofs.filling.fill.Given as goal

-- this number of free nodes, and node 0
abbrev pub invariant-loop-number : goal.invariant-loop-number
invariant-loop-number l = record {
  list : IsListed l.nodes.items l.number 0 [];
  nodes : length l.nodes.items ≡ l.number + 1;
  capacity : vec_capacity l.nodes ≡ vec_capacity l.fn.nodes;
}
