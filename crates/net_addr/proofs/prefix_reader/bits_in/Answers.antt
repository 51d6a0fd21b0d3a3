use Rattle.std.proofs.Common.{Some, ◌∙◌}
use Rattle.net_addr.proofs.SpellingLemmas.{bare-bits}
use Rattle.net_addr.proofs.prefix_reader.bits_in.Goals as goal

pub returns-in-Some-clause-only : goal.returns-in-Some-clause-only
returns-in-Some-clause-only c = λ ip length fits named.
    let same = bare-bits c.args.text.now c.in-Some.ip ip length c.in-Some.ensures.fits fits c.in-Some.ensures.found named in
    λ i. Some (same.0 i, (c.bits.ensures ∙ same.1) i)
