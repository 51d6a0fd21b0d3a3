use Rattle.std.proofs.Common.{◌≡◌, ◌+◌, ◌*◌, ◌≤◌, ◌++◌, length}
use Rattle.std.specs.VecDeque.{deque_capacity, deque_len}
use Rattle.drawn_link.specs.Links.{queue_after}
use Rattle.drawn_link.proofs.settling.settle.Given as goal

-- what the datagrams that are left make of the queue is what all of them make of the one before, and there is room for each
-- of them twice
abbrev pub invariant-loop-gram : goal.invariant-loop-gram
invariant-loop-gram l = record {
  queued : queue_after l.is_drawn l.draws l.gram-iterator.rest.items l.queue.items ≡ queue_after l.is_drawn l.fn.draws l.fn.news.answers.items l.fn.queue.items;
  log : l.log.items ≡ l.fn.log.items ++ l.fn.news.log.items;
  acts : l.acts.items ≡ l.fn.acts.items ++ l.fn.news.acts.items;
  room : deque_len l.queue + 2 * length l.gram-iterator.rest.items ≤ deque_capacity l.queue;
}
