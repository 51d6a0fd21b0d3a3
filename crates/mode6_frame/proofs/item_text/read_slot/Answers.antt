use Rattle.std.proofs.Common.{◌∙◌, ◌++◌, ◌∷◌, [], sym, ap, rules}
use Rattle.mode6_frame.proofs.SlotLemmas.{IsNameAt-found, IsSlotRead-blank, IsSlotRead-named, IsSlotRead-valued, IsUnclosedSlot-valued}
use Rattle.mode6_frame.proofs.item_text.read_slot.Goals as goal

pub returns-then-begin-end-clause-read : goal.returns-then-begin-end-clause-read
returns-then-begin-end-clause-read c =
    IsSlotRead-blank c.args.text.now c.args.at c.past_white-begin.result c.past_name-end.result c.args.items.now.items
    c.past_white-begin.ensures.within c.past_white-begin.ensures.past c.past_name-end.ensures.past c.if-begin-end.true

pub returns-then-not-is_at-clause-read : goal.returns-then-not-is_at-clause-read
returns-then-not-is_at-clause-read c =
    let name = IsNameAt-found c.args.text.now c.args.at c.past_white-begin.result c.past_name-end.result c.past_white-past.result
    c.past_white-begin.ensures.past c.past_name-end.ensures.past c.if-begin-end.false c.past_white-past.ensures.past c.past_white-past.ensures.within in
    IsSlotRead-named c.args.text.now c.args.at c.past_white-begin.result c.past_name-end.result c.past_white-past.result
    c.args.items.now.items c.push.new.self.items name (sym c.is_at.ensures ∙ c.if-not-is_at.true)
    (c.in_ok-push.ensures.items ∙ ap (λ last. c.args.items.now.items ++ last ∷ []) c.in_ok-named.ensures.named)

pub returns-in_err-place-clause-unclosed : goal.returns-in_err-place-clause-unclosed
returns-in_err-place-clause-unclosed c =
    let name = IsNameAt-found c.args.text.now c.args.at c.past_white-begin.result c.past_name-end.result c.past_white-past.result
    c.past_white-begin.ensures.past c.past_name-end.ensures.past c.if-begin-end.false c.past_white-past.ensures.past c.past_white-past.ensures.within in
    let is = IsUnclosedSlot-valued c.args.text.now c.args.at c.past_white-begin.result c.past_name-end.result c.past_white-past.result
    c.in_err-place.field-0.0 name (sym c.is_at.ensures ∙ c.if-not-is_at.false) c.in_err-place.ensures.unclosed in
    search (rules, is)

pub returns-clause-read : goal.returns-clause-read
returns-clause-read c =
    let name = IsNameAt-found c.args.text.now c.args.at c.past_white-begin.result c.past_name-end.result c.past_white-past.result
    c.past_white-begin.ensures.past c.past_name-end.ensures.past c.if-begin-end.false c.past_white-past.ensures.past c.past_white-past.ensures.within in
    let place = c.in_ok-place.place in
    IsSlotRead-valued c.args.text.now c.args.at c.past_white-begin.result c.past_name-end.result c.past_white-past.result
    place.begin place.end place.past c.args.items.now.items c.push-2.new.self.items
    name (sym c.is_at.ensures ∙ c.if-not-is_at.false) c.in_ok-place.ensures.read
    (c.in_ok-push-2.ensures.items ∙ ap (λ last. c.args.items.now.items ++ last ∷ []) c.in_ok-valued.ensures.valued)
