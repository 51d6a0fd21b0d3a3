use Rattle.std.proofs.Common.{◌+◌, ◌-◌, arith, rules}
use Rattle.std.proofs.lemmas.Bool.{both_ways}
use Rattle.mru_items.specs.declared.pair.TheConstants.{MAX_PAIRS}
use Rattle.mru_items.proofs.PairLemmas.{none-more, none-step}
use Rattle.mru_items.proofs.query_reading.name_none_from.Goals as goal

pub returns-then-not-branch-clause-none : goal.returns-then-not-branch-clause-none
returns-then-not-branch-clause-none c =
    let place = c.loop-place.place in
    let step = none-step c.args.items.now (MAX_PAIRS - place) place (MAX_PAIRS - (place + 1)) (place + 1) (omega arith) (omega arith) in
    (λ impossible. cc impossible, λ none. absurd (both_ways _ c.if-not-branch.true (c.in_ok-names_none.ensures.none.1 (step (c.loop-place.invariant.onto none)).0)))

pub loop-place-preserved : goal.loop-place-preserved
loop-place-preserved c =
    let place = c.loop-place.place in
    let step = none-step c.args.items.now (MAX_PAIRS - place) place (MAX_PAIRS - (place + 1)) (place + 1) (omega arith) (omega arith) in
    let more = none-more c.args.items.now (MAX_PAIRS - place) place (MAX_PAIRS - (place + 1)) (place + 1) (omega arith) (omega arith) in
    record {
      onto = λ none. (step (c.loop-place.invariant.onto none)).1;
      into = λ none. c.loop-place.invariant.into (more (c.in_ok-names_none.ensures.none.0 (search rules)) none);
    }
