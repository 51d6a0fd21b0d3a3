use Rattle.std.proofs.Common.{sym, ◌∙◌, arith}
use Rattle.mru_items.proofs.NameLemmas.{no_item, the_one-one, the_one-several}
use Rattle.mru_items.proofs.lookup.only_value.Goals as goal

pub returns-then-next_named-len : goal.returns-then-next_named-len
returns-then-next_named-len c =
    let first = c.next_named-at.ensures.named no_item (omega arith) in
    let second = c.next_named.ensures.named no_item (omega arith) in
    sym (the_one-several _ _ _ _ _ _ _ c.next_named-at.ensures.skipped first c.next_named.ensures.skipped second)

pub returns : goal.returns
returns c =
    let first = c.next_named-at.ensures.named no_item (omega arith) in
    c.value_at.ensures no_item
    ∙ sym (the_one-one _ _ _ _ c.next_named-at.ensures.skipped first (c.next_named.ensures.none (omega arith)))
