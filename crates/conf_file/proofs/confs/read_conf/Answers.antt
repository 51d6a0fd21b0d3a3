use Rattle.std.proofs.Common.{ap, inl, Ok}
use Rattle.conf_file.proofs.ConfTextLemmas.{due_fault, due_no_conf, due_one, take_more, taken_all, taken_one_conf, taken_refused_nowhere}
use Rattle.conf_file.proofs.confs.read_conf.Goals as goal

pub lines-preserved : goal.lines-preserved
lines-preserved c =
    take_more c.args.text.now c.in-Some.line.now _ _ c.lines.number c.saturating_add-number.result c.lines.draft c.take_line.new.draft c.lines.invariant c.in-Some.ensures.line c.saturating_add-number.ensures c.in-Ok.ensures.taken

pub returns-in-Err-clause-only : goal.returns-in-Err-clause-only
returns-in-Err-clause-only c conf means =
    due_no_conf c.args.text.now c.in-Some.line.now _ _ c.lines.number c.saturating_add-number.result c.lines.draft c.in-Err.refusal c.fault_at.result conf c.lines.invariant c.in-Some.ensures.line c.in-Err.ensures.refused c.fault_at.ensures means

pub returns-in-Err-clause-refused_only : goal.returns-in-Err-clause-refused_only
returns-in-Err-clause-refused_only c line word refused =
    due_one c.args.text.now c.in-Some.line.now _ _ c.lines.number c.saturating_add-number.result line word c.lines.draft c.in-Err.refusal c.fault_at.result c.lines.invariant c.in-Some.ensures.line c.saturating_add-number.ensures c.in-Err.ensures.refused c.fault_at.ensures refused

pub returns-clause-only : goal.returns-clause-only
returns-clause-only c conf means =
    inl (ap Ok (taken_one_conf c.args.text.now _ c.lines.number c.lines.draft c.in_ok-finished.field-0 conf c.lines.invariant c.in_default.ensures.ended c.in_ok-finished.ensures means))

pub returns-clause-refused_only : goal.returns-clause-refused_only
returns-clause-refused_only c line word refused =
    absurd (taken_refused_nowhere c.args.text.now _ c.lines.number line word c.lines.draft c.lines.invariant c.in_default.ensures.ended refused)

pub returns-in-Err-clause-refused : goal.returns-in-Err-clause-refused
returns-in-Err-clause-refused c =
    due_fault c.args.text.now c.in-Some.line.now _ _ c.lines.number c.saturating_add-number.result c.lines.draft c.in-Err.refusal c.fault_at.result c.lines.invariant c.in-Some.ensures.line c.saturating_add-number.ensures c.in-Err.ensures.refused c.fault_at.ensures

pub returns-clause-found : goal.returns-clause-found
returns-clause-found c = taken_all c.args.text.now _ c.lines.number c.lines.draft c.in_ok-finished.field-0 c.lines.invariant c.in_default.ensures.ended c.in_ok-finished.ensures
