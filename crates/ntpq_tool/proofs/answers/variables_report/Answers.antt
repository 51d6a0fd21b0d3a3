use Rattle.mode6_frame.specs.Items.{IsItemText}
use Rattle.ntpq_tool.specs.Answers.{IsVariablesReport}
use Rattle.ntpq_tool.proofs.AnswerLemmas.{Judges-part}
use Rattle.ntpq_tool.proofs.answers.variables_report.Goals as goal

pub returns-in-Err : goal.returns-in-Err
returns-in-Err c =
    Judges-part (IsItemText c.args.answer.now.text) (IsVariablesReport c.args.assoc c.args.answer.now) c.in-Err.why
    (λ report is. (is.items, is.read)) c.in-Err.ensures.items
