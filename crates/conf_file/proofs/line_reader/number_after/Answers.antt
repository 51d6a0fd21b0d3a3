use Rattle.std.proofs.Common.{◌+◌, ap, length, arith}
use Rattle.conf_file.proofs.line_reader.number_after.Goals as goal

pub words-preserved : goal.words-preserved
words-preserved c =
    let (done, count, left) = c.words.invariant in
    (done + 1, omega (arith, count, c.saturating_add-number.ensures), omega (arith, left, ap length c.in-Some.ensures.word))
