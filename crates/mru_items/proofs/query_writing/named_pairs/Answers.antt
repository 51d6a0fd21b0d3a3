use Rattle.std.proofs.Common.{◌∷◌, [], ◌++◌, ◌≤◌, List, take, sym, ap, subst, ◌∙◌, arith}
use Rattle.mode6_frame.specs.declared.message.TheConstants.{MAX_BODY}
use Rattle.mru_items.specs.declared.pair.Pair.{Pair}
use Rattle.mru_items.specs.Queries.{read_of, request_len}
use Rattle.std.specs.Prelude.{reverse}
use Rattle.std.proofs.lemmas.List.{length-reverse, take_more}
use Rattle.mru_items.proofs.LenLemmas.{named-is, room-more}
use Rattle.mru_items.proofs.query_writing.named_pairs.Goals as goal

pub returns-then-needed-room : goal.returns-then-needed-room
returns-then-needed-room c =
    let pairs = reverse c.args.seen.now in
    let long = length-reverse c.args.seen.now in
    let room = room-more c.args.query.now pairs c.loop-count.count c.loop-count.room c.pair_len-needed.result c.newest-pair.result (omega (arith, long))
    (c.newest-pair.ensures c.newest-pair.result) c.pair_len-needed.ensures.value c.loop-count.invariant.room in
    let few : request_len (read_of c.args.query.now (take c.loop-count.count pairs)) ≤ MAX_BODY = omega (arith, c.loop-count.invariant.room) in
    let are = c.of.ensures ∙ c.loop-count.invariant.pairs in
    record {
      named = are ∙ named-is c.args.query.now pairs c.loop-count.count (omega (arith, long)) (omega (arith, c.loop-count.invariant.room)) (λ _. room.1 c.if-needed-room.true);
      fits = subst (λ (named : List Pair). request_len (read_of c.args.query.now named) ≤ MAX_BODY) (sym are) few;
    }

pub loop-count-preserved : goal.loop-count-preserved
loop-count-preserved c =
    let pairs = reverse c.args.seen.now in
    let long = length-reverse c.args.seen.now in
    let room = room-more c.args.query.now pairs c.loop-count.count c.loop-count.room c.pair_len-needed.result c.newest-pair.result (omega (arith, long))
    (c.newest-pair.ensures c.newest-pair.result) c.pair_len-needed.ensures.value c.loop-count.invariant.room in
    let more = take_more pairs c.loop-count.count c.newest-pair.result (omega (arith, long)) in
    record {
      pairs = c.in_ok-push.ensures.items ∙ ap (λ before. before ++ c.newest-pair.result ∷ []) c.loop-count.invariant.pairs
          ∙ ap (λ it. take c.loop-count.count pairs ++ it ∷ []) (c.newest-pair.ensures c.newest-pair.result) ∙ sym more;
      room = room.0 c.if-needed-room.false;
    }

pub returns : goal.returns
returns c =
    let pairs = reverse c.args.seen.now in
    let long = length-reverse c.args.seen.now in
    let few : request_len (read_of c.args.query.now (take c.loop-count.count pairs)) ≤ MAX_BODY = omega (arith, c.loop-count.invariant.room) in
    let are = c.of-2.ensures ∙ c.loop-count.invariant.pairs in
    record {
      named = are ∙ named-is c.args.query.now pairs c.loop-count.count (omega (arith, long)) (omega (arith, c.loop-count.invariant.room))
          (λ below. absurd (omega (arith, long, below)));
      fits = subst (λ (named : List Pair). request_len (read_of c.args.query.now named) ≤ MAX_BODY) (sym are) few;
    }
