use Rattle.std.proofs.Common.{arith}
use Rattle.mode6_frame.proofs.GroupLemmas.{is_tagged-short}
use Rattle.mode6_frame.proofs.tags.has_tag.Goals as goal

pub returns-then-body-lt-TAG_LEN-clause-tagged : goal.returns-then-body-lt-TAG_LEN-clause-tagged
returns-then-body-lt-TAG_LEN-clause-tagged c = is_tagged-short c.args.body.now (omega arith)
