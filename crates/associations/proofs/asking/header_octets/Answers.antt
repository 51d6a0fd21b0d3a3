use Rattle.std.proofs.Common.{◌++◌, subst}
use Rattle.ntp_packet.specs.declared.packet.Header.{Header}
use Rattle.ntp_packet.specs.Packet.{IsPacket}
use Rattle.associations.proofs.asking.header_octets.Goals as goal

pub returns-clause-packet : goal.returns-clause-packet
returns-clause-packet c = λ rest.
    subst (λ (h : Header). IsPacket (c.write.result ++ rest) h) c.make_header.ensures.value
    (c.write.ensures.read_back c.make_header.ensures.version c.make_header.ensures.mode rest)
