use Rattle.std.proofs.Common.{Err, ap}
use Rattle.mode6_frame.specs.Items.{IsItemText}
use Rattle.ntpq_tool.specs.Answers.{IsPeerLine}
use Rattle.ntpq_tool.proofs.AnswerLemmas.{Judges-part, no_line}
use Rattle.ntpq_tool.proofs.answers.line_of_peer.Goals as goal

pub returns-in-Err : goal.returns-in-Err
returns-in-Err c =
    Judges-part (IsItemText c.args.answer.now.text) (IsPeerLine c.args.association c.args.answer.now) c.in-Err.why
    (λ line is. (is.items, is.read)) c.in-Err.ensures.items

pub returns-in-Err-BadReply : goal.returns-in-Err-BadReply
returns-in-Err-BadReply c = λ line. no_line c.args.association c.args.answer.now _ line c.in-Ok.ensures.only
    (c.in-Err-BadReply.ensures.refused.0 (ap Err c.in-Err-BadReply.field-0-is))
