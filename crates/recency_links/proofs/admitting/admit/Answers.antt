use Rattle.std.proofs.Common.{◌≡◌, true, Result, Ok, Err, OnErr, ap, sym, ◌∙◌, length, arith}
use Rattle.recency.specs.declared.visit.Touched.{Touched}
use Rattle.recency.specs.Arrivals.{has_new_row}
use Rattle.recency_links.specs.Lists.{rows_of}
use Rattle.recency_links.proofs.ReadingLemmas.{count-is}
use Rattle.recency_links.proofs.TouchedLemmas.{absent-answer, admission-is, admission-room, admitted-touched}
use Rattle.recency_links.proofs.admitting.admit.Goals as goal

-- what holds holds on an error
on-err : {T E : Type 0} (result : Result T E) (P : Type 0) → P → OnErr result P
on-err (Ok value) P holds = tt
on-err (Err fault) P holds = holds

pub follow-requires-clause-room : goal.follow-requires-clause-room
follow-requires-clause-room g c =
    let is = admission-is c.args.limits.now (rows_of c.args.links.now) c.args.stamp c.oldest_in-oldest.result c.args.links.now.count c.admission-answer.result c.oldest_in-oldest.ensures.row (count-is c.requires.linked.list) c.admission-answer.ensures in
    admission-room c.args.limits.now _ c.args.stamp c.args.links.now.count _ c.admission-answer.result c.args.limits.now.depths c.requires.linked.kept (count-is c.requires.linked.list) c.requires.linked.nodes is

pub follow-requires-clause-most : goal.follow-requires-clause-most
follow-requires-clause-most g c = omega (arith, c.requires.linked.nodes, c.args.limits.now.most)

pub returns-clause-touched : goal.returns-clause-touched
returns-clause-touched g c =
    let is = admission-is c.args.limits.now (rows_of c.args.links.now) c.args.stamp c.oldest_in-oldest.result c.args.links.now.count c.admission-answer.result c.oldest_in-oldest.ensures.row (count-is c.requires.linked.list) c.admission-answer.ensures in
    admitted-touched c.args.limits.now _ c.args.visit.now c.args.stamp c.admission-answer.result _ c.requires.absent is c.in_ok-follow.ensures.rows

pub returns-in_err-follow-clause-memory : goal.returns-in_err-follow-clause-memory
returns-in_err-follow-clause-memory g c =
    let is = admission-is c.args.limits.now (rows_of c.args.links.now) c.args.stamp c.oldest_in-oldest.result c.args.links.now.count c.admission-answer.result c.oldest_in-oldest.ensures.row (count-is c.requires.linked.list) c.admission-answer.ensures in
    on-err c.from_residual.result _ (sym (ap has_new_row (absent-answer c.args.limits.now (rows_of c.args.links.now) c.args.visit.now c.args.stamp c.admission-answer.result c.requires.absent is)) ∙ c.in_err-follow.ensures.memory)
