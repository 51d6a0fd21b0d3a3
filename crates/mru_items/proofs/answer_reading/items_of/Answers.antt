use Rattle.std.proofs.Common.{Err, ap, ◌∙◌}
use Rattle.mru_items.proofs.answer_reading.items_of.Goals as goal

pub returns-in-Err-At-clause-unread : goal.returns-in-Err-At-clause-unread
returns-in-Err-At-clause-unread c = λ _. c.read_items.ensures.unread c.in-Err-At.field-0-0 (c.in-Err-At.is ∙ ap Err c.in-Err-At.field-0-is)
