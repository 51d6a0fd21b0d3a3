use Rattle.net_addr.specs.Addresses.{number_of}
use Rattle.net_addr.proofs.NumberLemmas.{from_be_bytes-to_be_bytes_16}
use Rattle.net_addr.proofs.masks.octets_v6.Goals as goal

pub returns-clause-number : goal.returns-clause-number
unfolding number_of
returns-clause-number c = rw c.to_be_bytes.ensures (from_be_bytes-to_be_bytes_16 c.args.number c.ranges.number.fits)
