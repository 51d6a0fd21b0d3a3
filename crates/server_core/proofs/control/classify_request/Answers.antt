use Rattle.std.proofs.Common.{arith}
use Rattle.server_core.proofs.ReadLemmas.{only_other}
use Rattle.server_core.proofs.control.classify_request.Goals as goal

pub returns-in_ok-asked_by-clause-only : goal.returns-in_ok-asked_by-clause-only
returns-in_ok-asked_by-clause-only c =
    only_other _ _ _ _ (λ reads. omega (arith, reads, c.if-frame-eq-OP_READ_MRU.false)) c.in_ok-asked_by.ensures.only
