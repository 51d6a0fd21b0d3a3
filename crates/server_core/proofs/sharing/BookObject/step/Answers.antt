use Rattle.std.proofs.Common.{arith}
use Rattle.server_core.proofs.sharing.BookObject.step.Goals as goal

pub returns-clause-short : goal.returns-clause-short
returns-clause-short c = omega (arith, c.step.ensures.most)
