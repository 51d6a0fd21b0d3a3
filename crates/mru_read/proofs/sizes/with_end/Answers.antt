use Rattle.std.proofs.Common.{◌∙◌, ap, sym}
use Rattle.mru_read.specs.Sizes.{end_lengths, measured, one_more}
use Rattle.mru_read.specs.declared.sizes.Measure.{Measure}
use Rattle.mru_read.proofs.SizeLemmas.{end-none, end-some}
use Rattle.mru_read.proofs.sizes.with_end.Goals as goal

pub returns-in-None-clause-measure : goal.returns-in-None-clause-measure
returns-in-None-clause-measure c =
    c.with_item-size.ensures.measure ∙ ap (measured c.args.size.now) (sym end-none) ∙ ap (λ newest. measured c.args.size.now (end_lengths newest)) (sym c.in-None.is)

pub returns-in-Some-clause-measure : goal.returns-in-Some-clause-measure
returns-in-Some-clause-measure c =
    c.with_item.ensures.measure ∙ ap (λ (m : Measure). one_more m 31) c.with_item-size.ensures.measure ∙ ap (measured c.args.size.now) (sym (end-some c.in-Some.field-0))
    ∙ ap (λ newest. measured c.args.size.now (end_lengths newest)) (sym c.in-Some.is)
