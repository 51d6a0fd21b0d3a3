use Rattle.std.proofs.Common.{IfErr, Ok, [], map, ap, sym, inl, rules}
use Rattle.refusals.proofs.LineLemmas.{read_all, read_one, read_refused_nowhere}
use Rattle.text_words.specs.Words.{lines_as_words, words_of}
use Rattle.mac_keys.specs.KeyTexts.{IsLineFault, key_grammar}
use Rattle.mac_keys.proofs.KeyTextLemmas.{due_fault_in, due_no_keys_in, due_once_in, take_more}
use Rattle.mac_keys.proofs.key_files.read_keys.Goals as goal

pub lines-preserved : goal.lines-preserved
lines-preserved c =
    take_more c.args.text.now c.in-Some.line.now c.lines.lines c.next.new.self c.lines.number _ c.lines.keys _ c.lines.invariant c.in-Some.ensures.line c.saturating_add-number.ensures c.in_ok-take_line.ensures.taken

pub returns-in_err-take_line-clause-only : goal.returns-in_err-take_line-clause-only
returns-in_err-take_line-clause-only c keys spelled =
    let due : IfErr c.from_residual.result (IsLineFault c.lines.keys (words_of c.in-Some.line.now) c.saturating_add-number.result) = search rules in
    due_no_keys_in c.args.text.now c.in-Some.line.now c.lines.lines c.next.new.self c.lines.number _ c.lines.keys keys _ c.lines.invariant c.in-Some.ensures.line c.from_residual.ensures.0 due spelled

pub returns-in_err-take_line-clause-refused : goal.returns-in_err-take_line-clause-refused
returns-in_err-take_line-clause-refused c =
    let due : IfErr c.from_residual.result (IsLineFault c.lines.keys (words_of c.in-Some.line.now) c.saturating_add-number.result) = search rules in
    due_fault_in c.args.text.now c.in-Some.line.now c.lines.lines c.next.new.self c.lines.number _ c.lines.keys _ c.lines.invariant c.in-Some.ensures.line c.saturating_add-number.ensures c.from_residual.ensures.0 due

pub returns-in_err-take_line-clause-refused_only : goal.returns-in_err-take_line-clause-refused_only
returns-in_err-take_line-clause-refused_only c line word refused =
    let due : IfErr c.from_residual.result (IsLineFault c.lines.keys (words_of c.in-Some.line.now) c.saturating_add-number.result) = search rules in
    due_once_in c.args.text.now c.in-Some.line.now c.lines.lines c.next.new.self c.lines.number _ line word c.lines.keys _ c.lines.invariant c.in-Some.ensures.line c.saturating_add-number.ensures
    c.from_residual.ensures.0 due refused

pub returns-clause-found : goal.returns-clause-found
returns-clause-found c =
    read_all key_grammar [] (lines_as_words c.args.text.now) _ c.lines.number c.lines.keys c.lines.invariant (ap (map words_of) c.in_default.ensures.ended)

pub returns-clause-only : goal.returns-clause-only
returns-clause-only c keys spelled =
    inl (ap Ok (sym (read_one key_grammar [] (lines_as_words c.args.text.now) _ c.lines.number c.lines.keys keys c.lines.invariant (ap (map words_of) c.in_default.ensures.ended) spelled)))

pub returns-clause-refused_only : goal.returns-clause-refused_only
returns-clause-refused_only c line word refused =
    absurd (read_refused_nowhere key_grammar [] (lines_as_words c.args.text.now) _ c.lines.number line word c.lines.keys c.lines.invariant (ap (map words_of) c.in_default.ensures.ended) refused)
