use Rattle.std.proofs.Common.{◌≡◌, ◌+◌, take}
use Rattle.std.specs.Prelude.{reverse}
use Rattle.mode6_frame.specs.declared.message.TheConstants.{MAX_BODY}
use Rattle.mru_items.specs.Queries.{read_of, request_len}
use Rattle.mru_items.proofs.query_writing.named_pairs.Given as goal

abbrev pub invariant-loop-count : goal.invariant-loop-count
invariant-loop-count l = record {
  pairs : l.pairs.items ≡ take l.count (reverse l.seen);
  room : l.room + request_len (read_of l.query (take l.count (reverse l.seen))) ≡ MAX_BODY;
}
