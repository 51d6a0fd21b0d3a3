use Rattle.std.proofs.Common.{List, ℕ, subst, sym}
use Rattle.mode6_frame.specs.Items.{IsItemText}
use Rattle.ntpq_tool.proofs.AnswerLemmas.{no_items, one_items}
use Rattle.ntpq_tool.proofs.answers.items_of.Goals as goal

pub returns-in-Err-At-clause-items : goal.returns-in-Err-At-clause-items
returns-in-Err-At-clause-items c = λ items is.
    no_items _ _ items c.in-Err-At.field-0-is
    (c.in-Err-At.ensures.only items (subst (λ (text : List ℕ). IsItemText text items) (sym c.as_slice.ensures.value) is))

pub returns-in-Ok-clause-only : goal.returns-in-Ok-clause-only
returns-in-Ok-clause-only c = λ items is.
    one_items _ items (c.in-Ok.ensures.only items (subst (λ (text : List ℕ). IsItemText text items) (sym c.as_slice.ensures.value) is))
