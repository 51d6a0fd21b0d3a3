use Rattle.std.proofs.Common.{◌≡◌, ◌<◌, ◌-◌, length, arith}
use Rattle.std.proofs.lemmas.Bool.{both_ways}
use Rattle.mru_items.specs.Queries.{NamesNone, NamesNoneFrom}
use Rattle.mru_items.specs.declared.pair.TheConstants.{MAX_PAIRS}
use Rattle.mru_items.proofs.PairLemmas.{so_far-more, so_far-none, so_far-not, so_far-whole}
use Rattle.mru_items.proofs.query_reading.pairs_of.Goals as goal

pub loop-pairs-init : goal.loop-pairs-init
loop-pairs-init c = rw c.new-pairs.ensures.items (so_far-none c.args.origin c.args.items.now)

pub loop-pairs-preserved : goal.loop-pairs-preserved
loop-pairs-preserved c =
    let number : c.len.result ≡ length c.loop-pairs.pairs.items = omega arith in
    let again : c.len-in-loop-pairs.result ≡ length c.loop-pairs.pairs.items = omega arith in
    let may = rw number at (c.in_ok-may_name.ensures.may.0 c.if-branch.true) in
    let exactly = rw (c.in-Some.is, again) at c.in_ok-pair.ensures.exactly in
    let fits = rw c.in-Some.is at c.in_ok-pair.ensures.fits in
    rw c.in_ok-push-in-Some.ensures.items
    (so_far-more c.args.origin c.args.items.now c.loop-pairs.pairs.items c.in-Some.pair c.loop-pairs.invariant may.0 may.1 exactly fits)

pub returns-then-not-branch-clause-exactly : goal.returns-then-not-branch-clause-exactly
returns-then-not-branch-clause-exactly c =
    let n = length c.loop-pairs.pairs.items in
    let number : c.len.result ≡ n = omega arith in
    let again : c.len-2.result ≡ n = omega arith in
    let ended : ¬ ((n < MAX_PAIRS) × ¬ (NamesNone c.args.items.now n)) =
    λ may. both_ways _ c.if-branch.false (c.in_ok-may_name.ensures.may.1 (rw number may)) in
    let some : ¬ (NamesNoneFrom c.args.items.now (MAX_PAIRS - n) n) =
    λ none. both_ways _ c.if-not-branch.true (c.in_ok-name_none_from.ensures.none.1 (rw again none)) in
    so_far-not c.args.origin c.args.items.now c.loop-pairs.pairs.items c.loop-pairs.invariant ended some

pub returns-clause-exactly : goal.returns-clause-exactly
returns-clause-exactly c =
    let n = length c.loop-pairs.pairs.items in
    let number : c.len.result ≡ n = omega arith in
    let again : c.len-2.result ≡ n = omega arith in
    let ended : ¬ ((n < MAX_PAIRS) × ¬ (NamesNone c.args.items.now n)) =
    λ may. both_ways _ c.if-branch.false (c.in_ok-may_name.ensures.may.1 (rw number may)) in
    let none : NamesNoneFrom c.args.items.now (MAX_PAIRS - n) n =
    rw again at (c.in_ok-name_none_from.ensures.none.0 c.if-not-branch.false) in
    rw c.of.ensures (so_far-whole c.args.origin c.args.items.now c.loop-pairs.pairs.items c.loop-pairs.invariant ended none)
