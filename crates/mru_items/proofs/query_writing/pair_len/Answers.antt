use Rattle.std.proofs.Common.{ap, length, arith}
use Rattle.mru_items.proofs.LenLemmas.{width-pair}
use Rattle.mru_items.proofs.query_writing.pair_len.Goals as goal

pub returns : goal.returns
returns c =
    let width = width-pair c.args.number c.args.pair.now c.write_text.ensures.fits in
    let digits = ap length c.format.ensures.text in
    let text = ap length c.write_text.ensures.text in
    record { value = omega (arith, width, digits, text, c.len.ensures.value) }
