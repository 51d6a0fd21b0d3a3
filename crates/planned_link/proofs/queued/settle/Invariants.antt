use Rattle.std.proofs.Common.{◌≡◌, ◌+◌, ◌*◌, ◌≤◌, ◌∷◌, [], ◌++◌, length}
use Rattle.std.specs.VecDeque.{deque_capacity, deque_len}
use Rattle.planned_link.specs.Fates.{fated}
use Rattle.planned_link.proofs.queued.settle.Given as goal

-- what the datagrams that are left make of the queue is what all of them make of the one before, and there is room for each
-- of them twice
abbrev pub invariant-loop-answer : goal.invariant-loop-answer
invariant-loop-answer l = record {
  queued : fated l.fates.rest.items l.answer-iterator.rest.items l.queue.items ≡ fated l.fn.fates l.fn.answers.items l.fn.queue.items;
  told : l.events.items ≡ l.fn.events.items ++ l.fn.event ∷ [];
  room : deque_len l.queue + 2 * length l.answer-iterator.rest.items ≤ deque_capacity l.queue;
}
