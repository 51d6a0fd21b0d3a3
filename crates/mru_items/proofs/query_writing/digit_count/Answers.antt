use Rattle.std.proofs.Common.{arith}
use Rattle.std.proofs.lemmas.Fmt.{length-decimal-le}
use Rattle.mru_items.proofs.query_writing.digit_count.Goals as goal

pub returns-clause-three : goal.returns-clause-three
returns-clause-three c = λ small. rw c.format.ensures.text (length-decimal-le 3 c.args.number (omega arith) (omega arith) (omega arith))
