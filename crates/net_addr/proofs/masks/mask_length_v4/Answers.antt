use Rattle.std.proofs.Common.{◌∙◌, ap, sym}
use Rattle.std.specs.Prelude.{Some}
use Rattle.net_addr.proofs.NumberLemmas.{mask_number-one}
use Rattle.net_addr.proofs.masks.mask_length_v4.Goals as goal

pub returns-then-mask-ones_v4-clause-only : goal.returns-then-mask-ones_v4-clause-only
returns-then-mask-ones_v4-clause-only c = λ length within same.
    ap Some (mask_number-one 32 c.loop-length.length length c.loop-length-test.true within (sym c.ones_v4.ensures ∙ sym c.if-mask-ones_v4.true ∙ same))
