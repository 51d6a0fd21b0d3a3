use Rattle.std.proofs.Common.{arith}
use Rattle.recency.proofs.TouchLemmas.{admitted-IsTouched, moved-IsTouched}
use Rattle.recency.proofs.plain_list.arrive.Goals as goal

pub returns-then-place-len-clause-touched : goal.returns-then-place-len-clause-touched
returns-then-place-len-clause-touched g c =
    moved-IsTouched c.args.limits.now c.args.rows.now.items c.deref.result.now c.args.visit.now c.args.stamp c.place_of-place.result c.move_to_end.new.rows.items c.requires.kept.distinct
    c.deref.ensures.value c.place_of-place.ensures.place (omega (arith, c.if-place-len.true, c.len.ensures, c.args.rows.now.ok.0)) c.move_to_end.ensures.items

pub returns-clause-touched : goal.returns-clause-touched
returns-clause-touched g c =
    admitted-IsTouched c.args.limits.now c.args.rows.now.items c.deref.result.now c.deref-2.result.now c.args.visit.now c.args.stamp c.place_of-place.result c.admission-answer.result c.new_row.result
    c.admit.new.rows.items c.deref.ensures.value c.deref-2.ensures.value c.place_of-place.ensures.place (omega (arith, c.if-place-len.false, c.len.ensures, c.args.rows.now.ok.0)) c.admission-answer.ensures.answer
    c.new_row.ensures c.admit.ensures.items
