use Rattle.std.proofs.Common.{sym, subst, ◌∙◌}
use Rattle.text_words.specs.Words.{words_of}
use Rattle.conf_file.specs.ConfTexts.{IsDue}
use Rattle.conf_file.specs.declared.tails.Refusal.{Refusal}
use Rattle.conf_file.proofs.KindLemmas.{line_open}
use Rattle.conf_file.proofs.TakingLemmas.{closed_due, misread_due, taken_alone, untaken_due}
use Rattle.conf_file.proofs.line_reader.take_line.Goals as goal

pub returns-in-Err-clause-refused : goal.returns-in-Err-clause-refused
returns-in-Err-clause-refused c =
    misread_due c.args.draft.now (words_of c.args.line.now) c.in-Err.refusal (sym c.is_line_closed.ensures ∙ c.if-is_line_closed.false) c.in-Err.ensures

pub take-requires : goal.take-requires
take-requires c =
    line_open c.args.draft.now (words_of c.args.line.now) c.in-Ok.read (sym c.is_line_closed.ensures ∙ c.if-is_line_closed.false) c.in-Ok.ensures.found

pub returns-in-Ok-take-clause-taken : goal.returns-in-Ok-take-clause-taken
returns-in-Ok-take-clause-taken c =
    taken_alone c.args.draft.now (words_of c.args.line.now) c.in-Ok.read c.take.new.self (sym c.is_line_closed.ensures ∙ c.if-is_line_closed.false) c.in-Ok.ensures c.in-Ok-take.ensures.taken

pub returns-in-Err-take-clause-refused : goal.returns-in-Err-take-clause-refused
returns-in-Err-take-clause-refused c =
    let P : Refusal → Type 0 = IsDue c.args.draft.now (words_of c.args.line.now) in
    subst P (sym c.refusal_at.ensures)
    (untaken_due c.args.draft.now (words_of c.args.line.now) c.in-Ok.read c.in-Err-take.untaken (sym c.is_line_closed.ensures ∙ c.if-is_line_closed.false) c.in-Ok.ensures c.in-Err-take.ensures.refused)

pub returns-then-is_line_closed-clause-refused : goal.returns-then-is_line_closed-clause-refused
returns-then-is_line_closed-clause-refused c = closed_due c.args.draft.now (words_of c.args.line.now) (sym c.is_line_closed.ensures ∙ c.if-is_line_closed.true)
