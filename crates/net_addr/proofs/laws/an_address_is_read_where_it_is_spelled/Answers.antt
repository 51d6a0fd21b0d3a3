use Rattle.net_addr.proofs.ReadingLemmas.{addr_in_complete, addr_in_sound}
use Rattle.net_addr.proofs.laws.an_address_is_read_where_it_is_spelled.Goals as goal

pub returns : goal.returns
returns g c = (addr_in_sound g.given.text g.given.address, λ h. addr_in_complete g.given.text g.given.address h.0 h.1)
