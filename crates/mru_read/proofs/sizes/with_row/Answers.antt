use Rattle.std.proofs.Common.{◌∙◌, ap, arith, decimal, length}
use Rattle.mru_read.proofs.SizeLemmas.{row-measured}
use Rattle.mru_read.proofs.sizes.with_row.Goals as goal

pub returns-clause-measure : goal.returns-clause-measure
returns-clause-measure c =
    row-measured c.args.size.now c.with_item-size.result c.with_item-size-2.result c.with_item-size-3.result c.with_item-size-4.result c.with_item-size-5.result c.with_item.result
    c.args.number c.args.row.now c.decimal_len-digits.result c.addr_len-addr.result c.decimal_len.result c.decimal_len-2.result c.hex_len.result
    c.decimal_len-digits.ensures.len c.addr_len-addr.ensures.len (c.decimal_len.ensures.len ∙ ap (λ n. length (decimal n)) c.from.ensures) (c.decimal_len-2.ensures.len ∙ ap (λ n. length (decimal n)) c.from-2.ensures) c.hex_len.ensures.len
    c.addr_len-addr.ensures.fits (omega (arith, c.decimal_len.ensures.fits, c.from.ensures)) (omega (arith, c.decimal_len-2.ensures.fits, c.from-2.ensures)) c.hex_len.ensures.fits
    c.with_item-size.ensures.measure c.with_item-size-2.ensures.measure c.with_item-size-3.ensures.measure c.with_item-size-4.ensures.measure c.with_item-size-5.ensures.measure c.with_item.ensures.measure
