use Rattle.std.proofs.Common.{arith}
use Rattle.mru_items.proofs.LenLemmas.{width-mincount}
use Rattle.mru_items.proofs.query_writing.mincount_len.Goals as goal

pub returns-clause-value : goal.returns-clause-value
returns-clause-value c =
    let width = width-mincount c.args.mincount (omega arith) c.if-mincount-eq1.false in
    omega (arith, width, c.digit_count.ensures.value)
