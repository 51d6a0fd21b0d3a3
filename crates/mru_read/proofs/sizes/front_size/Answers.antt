use Rattle.std.proofs.Common.{◌∙◌, ◌+◌, ap, sym}
use Rattle.mru_read.specs.Sizes.{front_lengths, measured, no_items, one_more}
use Rattle.mru_read.specs.declared.sizes.Measure.{Measure}
use Rattle.mru_read.proofs.SizeLemmas.{front-none, front-some}
use Rattle.mru_read.proofs.sizes.front_size.Goals as goal

pub returns-in-None-clause-measure : goal.returns-in-None-clause-measure
returns-in-None-clause-measure c =
    c.with_item-nonce.ensures.measure ∙ ap (measured no_items) (sym front-none) ∙ ap (λ confirmed. measured no_items (front_lengths confirmed)) (sym c.in-None.is)

pub returns-in-Some-clause-measure : goal.returns-in-Some-clause-measure
returns-in-Some-clause-measure c =
    c.with_item-in-Some.ensures.measure
    ∙ ap (λ (m : Measure). one_more m 30) (c.with_item.ensures.measure ∙ ap (λ (m : Measure). one_more m (11 + c.addr_len.result)) c.with_item-nonce.ensures.measure
    ∙ ap (λ n. one_more (one_more no_items 30) (11 + n)) c.addr_len.ensures.len)
    ∙ ap (measured no_items) (sym (front-some c.in-Some.pair c.addr_len.ensures.fits))
    ∙ ap (λ confirmed. measured no_items (front_lengths confirmed)) (sym c.in-Some.is)
