use Rattle.std.proofs.Common.{Some, ap}
use Rattle.net_addr.specs.declared.addr.Ip.TheVariants.{V4, V6}
use Rattle.net_addr.proofs.SpellingLemmas.{SpellsIp-one}
use Rattle.net_addr.proofs.ip_reader.read_ip.Goals as goal

pub returns-in-Some-clause-only : goal.returns-in-Some-clause-only
returns-in-Some-clause-only c = λ ip fits h.
    ap Some (SpellsIp-one c.args.text.now (V4 c.in-Some.octets) ip c.in-Some.ensures.fits fits c.in-Some.ensures.found h)

pub returns-in-Some-clause-none : goal.returns-in-Some-clause-none
returns-in-Some-clause-none c = (λ some. cc, λ none. absurd (none (V4 c.in-Some.octets) c.in-Some.ensures.fits c.in-Some.ensures.found))

pub returns-in-Some-octets_v6-clause-only : goal.returns-in-Some-octets_v6-clause-only
returns-in-Some-octets_v6-clause-only c = λ ip fits h.
    ap Some (SpellsIp-one c.args.text.now (V6 c.in-Some-octets_v6.octets) ip c.in-Some-octets_v6.ensures.fits fits c.in-Some-octets_v6.ensures.found h)

pub returns-in-Some-octets_v6-clause-none : goal.returns-in-Some-octets_v6-clause-none
returns-in-Some-octets_v6-clause-none c = (λ some. cc, λ none. absurd (none (V6 c.in-Some-octets_v6.octets) c.in-Some-octets_v6.ensures.fits c.in-Some-octets_v6.ensures.found))
