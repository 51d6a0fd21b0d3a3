use Rattle.std.proofs.Common.{◌∙◌, ap, sym}
use Rattle.std.specs.Prelude.{Some}
use Rattle.net_addr.proofs.NumberLemmas.{mask_number-one}
use Rattle.net_addr.proofs.masks.mask_length_v6.Goals as goal

pub returns-then-mask-ones_v6-clause-only : goal.returns-then-mask-ones_v6-clause-only
returns-then-mask-ones_v6-clause-only c = λ length within same.
    ap Some (mask_number-one 128 c.loop-length.length length c.loop-length-test.true within (sym c.ones_v6.ensures ∙ sym c.if-mask-ones_v6.true ∙ same))
