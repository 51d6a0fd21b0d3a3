use Rattle.std.proofs.Common.{arith}
use Rattle.mru_items.proofs.LenLemmas.{width-limit}
use Rattle.mru_items.proofs.query_writing.limit_len.Goals as goal

pub returns-in-Some : goal.returns-in-Some
returns-in-Some c =
    let range = rw c.in-Some.is at c.requires in
    let width = width-limit c.in-Some.limit (omega (arith, range.1)) in
    record {
      value = rw c.in-Some.is (omega (arith, width, c.digit_count.ensures.value));
      few = omega (arith, c.digit_count.ensures.three (omega (arith, range.1)));
    }
