use Rattle.std.proofs.Common.{◌≡◌, ◌∷◌, [], length, ap, true, arith, length-append, rules}
use Rattle.mru_items.specs.Answers.{has_each}
use Rattle.mru_items.proofs.FoundLemmas.{found-more, rows_in-are, rows_in-none, shown-more}
use Rattle.mru_items.proofs.row_reading.rows_of.Goals as goal

pub returns-in_err-row_from-clause-bad : goal.returns-in_err-row_from-clause-bad
returns-in_err-row_from-clause-bad c =
    λ bad.
    let each : has_each c.args.items.now c.count_numbered-count.result ≡ true = search rules in
    rows_in-none c.args.items.now c.count_numbered-count.result c.loop-number.number c.count_numbered-count.ensures.value each c.loop-number-test.true
    (c.in_err-row_from.ensures.bad (search rules))

pub loop-number-preserved : goal.loop-number-preserved
loop-number-preserved c =
    let i = c.loop-number.invariant in
    record {
      place = c.row_from.ensures.within;
      count = omega (arith, ap length c.in_ok-push.ensures.items, length-append c.loop-number.rows.items (c.in_ok-row_from.field-0 ∷ []), i.count);
      found = rw c.in_ok-push.ensures.items
          (found-more c.args.items.now 0 c.loop-number.number c.loop-number.rows.items c.in_ok-row_from.field-0 i.found c.in_ok-row_from.ensures.found (omega (arith, i.count)));
      fit = rw c.in_ok-push.ensures.items (shown-more c.loop-number.rows.items c.in_ok-row_from.field-0 i.fit c.in_ok-row_from.ensures.fits);
    }

pub returns-clause-told : goal.returns-clause-told
returns-clause-told c =
    let each : has_each c.args.items.now c.count_numbered-count.result ≡ true = search rules in
    rw c.of.ensures
    (rows_in-are c.args.items.now c.count_numbered-count.result c.loop-number.rows.items c.count_numbered-count.ensures.value each
    (omega arith) (omega arith) c.loop-number.invariant.found)
