use Rattle.std.proofs.Common.{refl}
use Rattle.conf_file.proofs.DraftLemmas.{restrict_untaken}
use Rattle.conf_file.proofs.drafts.Draft.take.Goals as goal

pub returns-in-Some-clause-taken : goal.returns-in-Some-clause-taken
returns-in-Some-clause-taken c = rw c.in-Mru.is (c.in-Some.limits, c.in-Some.ensures.found, refl)

pub returns-in-Err-restrict-clause-refused : goal.returns-in-Err-restrict-clause-refused
returns-in-Err-restrict-clause-refused c =
    restrict_untaken c.args.self.now c.args.line c.in-Restrict.given c.in-Err-restrict.fault c.why_untaken.result c.in-Restrict.is c.in-Err-restrict.ensures.full c.why_untaken.ensures
