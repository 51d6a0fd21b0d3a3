use Rattle.std.proofs.Common.{Some, ap, inl, inr}
use Rattle.net_addr.proofs.SpellingLemmas.{SpellsIp-one, SpellsIp-host-one}
use Rattle.net_addr.proofs.ip_reader.read_bare.Goals as goal

pub returns-in-Some-clause-only : goal.returns-in-Some-clause-only
returns-in-Some-clause-only c = λ ip fits h. elim h [
  | inl alone ↦ ap Some (SpellsIp-one c.args.text.now c.in-Some.ip ip c.in-Some.ensures.fits fits c.in-Some.ensures.found alone)
  | inr host ↦ ap Some (SpellsIp-host-one c.args.text.now c.in-Some.ip ip c.in-Some.ensures.fits fits c.in-Some.ensures.found host)
]
