use Rattle.std.proofs.Common.{◌≡◌, ◌<◌, ◌^◌, length, rules}
use Rattle.std.proofs.lemmas.List.Elements.{All-from_get_or}
use Rattle.net_addr.proofs.GroupLemmas.{octets_of-segments_of}
use Rattle.edge_traits.proofs.udp_port.system_v6.Goals as goal

pub returns : goal.returns
returns c =
    let sixteen : length c.args.octets.now ≡ 16 = search rules in
    let fits = All-from_get_or (λ octet. octet < 2 ^ 8) c.args.octets.now 0 (λ i within. c.fits-octets i) in
    rw c.from_octets.ensures (octets_of-segments_of 8 c.args.octets.now sixteen fits)
