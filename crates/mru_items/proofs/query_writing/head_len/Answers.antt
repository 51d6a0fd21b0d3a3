use Rattle.std.proofs.Common.{codes, refl, arith}
use Rattle.mru_items.proofs.LenLemmas.{request_len-head}
use Rattle.mru_items.proofs.query_writing.head_len.Goals as goal

pub returns-clause-value : goal.returns-clause-value
returns-clause-value c =
    let head = request_len-head c.args.query.now (omega (arith, c.requires.most)) in
    let resall = c.mask_len.ensures.value (codes "resall") refl in
    let resany = c.mask_len-2.ensures.value (codes "resany") refl in
    omega (arith, head, resall, resany)
