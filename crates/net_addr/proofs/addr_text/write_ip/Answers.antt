use Rattle.net_addr.specs.declared.addr.Ip.TheVariants.{V6}
use Rattle.net_addr.proofs.SpellingLemmas.{ip_text-spells}
use Rattle.net_addr.proofs.addr_text.write_ip.Goals as goal

pub returns-in-V6-clause-spelled : goal.returns-in-V6-clause-spelled
returns-in-V6-clause-spelled c =
    rw (c.ipv6_text.ensures.text, c.in-V6.is) (ip_text-spells (V6 c.in-V6.octets) c.ipv6_text.ensures.fits)
