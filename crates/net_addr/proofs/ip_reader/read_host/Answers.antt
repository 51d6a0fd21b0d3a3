use Rattle.std.proofs.Common.{Some, ap, refl}
use Rattle.net_addr.specs.declared.addr.Ip.TheVariants.{V4, V6}
use Rattle.net_addr.proofs.SpellingLemmas.{SpellsHost-one}
use Rattle.net_addr.proofs.ip_reader.read_host.Goals as goal

pub returns-in-Some-clause-only : goal.returns-in-Some-clause-only
returns-in-Some-clause-only c = λ ip fits h.
    ap Some (SpellsHost-one c.args.text.now (V4 c.in-Some.octets) ip c.in-Some.ensures.fits fits (c.args.text.now, c.in-Some.ensures.found, refl) h)

pub returns-in-Some-octets_v6-clause-only : goal.returns-in-Some-octets_v6-clause-only
returns-in-Some-octets_v6-clause-only c = λ ip fits h.
    ap Some (SpellsHost-one c.args.text.now (V6 c.in-Some-octets_v6.octets) ip c.in-Some-octets_v6.ensures.fits fits (c.in-Some-in_brackets.inner.now, c.in-Some-octets_v6.ensures.found, c.in-Some-in_brackets.ensures.found) h)
