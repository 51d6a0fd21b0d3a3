use Rattle.std.proofs.Common.{arith}
use Rattle.ntpq_tool.proofs.MaskLemmas.{room, four-digits}
use Rattle.ntpq_tool.proofs.masks.number_of.Goals as goal

pub overflow_mul-number : goal.overflow_mul-number
overflow_mul-number c =
    let fits = room c.loop-digit.digit-index c.loop-digit.number (omega (arith, c.requires, c.loop-digit-test.true)) c.loop-digit.invariant.small in
    omega (arith, fits)

pub overflow_add-number : goal.overflow_add-number
overflow_add-number c =
    let fits = room c.loop-digit.digit-index c.loop-digit.number (omega (arith, c.requires, c.loop-digit-test.true)) c.loop-digit.invariant.small in
    omega (arith, fits, c.from.ensures, c.in_ok-read_digit.ensures.fits)

pub overflow_cast-result : goal.overflow_cast-result
overflow_cast-result c =
    let fits = four-digits c.loop-digit.digit-index c.loop-digit.number (omega (arith, c.requires, c.loop-digit-test.false)) c.loop-digit.invariant.small in
    omega (arith, fits)
