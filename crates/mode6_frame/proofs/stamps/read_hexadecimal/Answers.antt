use Rattle.std.proofs.Common.{◌≡◌, ◌+◌, ◌*◌, ◌^◌, ◌<◌, Option, Some, List, ℕ, get_or, take, refl, sym, ap, ◌∙◌, arith, rules}
use Rattle.std.proofs.lemmas.Int.Digits.{digits_value_more}
use Rattle.std.proofs.lemmas.List.Folds.{list_all_more, list_all_at}
use Rattle.mode6_frame.proofs.StampLemmas.{more, room}
use Rattle.mode6_frame.proofs.stamps.read_hexadecimal.Goals as goal

pub overflow_mul-number : goal.overflow_mul-number
overflow_mul-number c =
    let fits = room c.loop-digit.digit-index c.loop-digit.number (omega arith) c.loop-digit.invariant.small in
    search (rules, arith)

pub overflow_add-number : goal.overflow_add-number
overflow_add-number c =
    let fits = room c.loop-digit.digit-index c.loop-digit.number (omega arith) c.loop-digit.invariant.small in
    search (rules, arith)

pub loop-digit-preserved : goal.loop-digit-preserved
loop-digit-preserved c =
    let i = c.loop-digit.invariant in
    let h = more c.args.digits.now c.loop-digit.digit-index c.loop-digit.number c.in_ok-read_digit.field-0 c.loop-digit-test.true
    i.digits i.value i.small c.in_ok-read_digit.ensures.value c.in_ok-read_digit.ensures.fits in
    rw c.from.ensures (record { digits = h.0; value = h.1; small = h.2 })
