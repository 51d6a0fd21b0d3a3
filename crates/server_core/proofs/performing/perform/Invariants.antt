use Rattle.std.proofs.Common.{◌≡◌, ◌≤◌, ◌+◌, ◌++◌, length, vec_capacity}
use Rattle.server_core.specs.Histories.{AreSteps}
use Rattle.server_core.proofs.performing.perform.Given as goal

-- the operations so far were taken, and there is room for an answer to each of the others
abbrev pub invariant-loop-op : goal.invariant-loop-op
invariant-loop-op l = record {
  steps : AreSteps l.initial.book l.yielded l.answers.items l.book;
  rest : l.fn.ops.items ≡ l.yielded ++ l.op-iterator.rest.items;
  room : length l.answers.items + length l.op-iterator.rest.items ≤ vec_capacity l.answers;
}
