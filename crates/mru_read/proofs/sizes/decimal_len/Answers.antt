use Rattle.std.proofs.Common.{arith, length, length-append, decimal, ap, ◌∷◌, [], ◌+◌, ◌/◌, ◌%◌}
use Rattle.std.proofs.lemmas.Fmt.{decimal_digit, decimal_step, length-decimal-le}
use Rattle.mru_read.proofs.sizes.decimal_len.Goals as goal

pub overflow_add-digits : goal.overflow_add-digits
overflow_add-digits c = omega (arith, length-decimal-le 20 c.args.number (omega arith) (omega arith) (omega arith))

pub loop-left-preserved : goal.loop-left-preserved
loop-left-preserved c =
    let left = c.loop-left.left in
    record {
      counted = omega (
        arith,
        ap length (decimal_step left (omega arith) (omega arith)),
        length-append (decimal (left / 10)) ((48 + left % 10) ∷ []),
      );
      fits = omega arith;
    }

pub returns-clause-len : goal.returns-clause-len
returns-clause-len c = omega (arith, ap length (decimal_digit c.loop-left.left (omega arith)))

pub returns-clause-at_most : goal.returns-clause-at_most
returns-clause-at_most c =
    omega (arith, ap length (decimal_digit c.loop-left.left (omega arith)), length-decimal-le 20 c.args.number (omega arith) (omega arith) (omega arith))
