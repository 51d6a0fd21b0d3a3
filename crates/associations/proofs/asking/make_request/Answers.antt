use Rattle.std.proofs.Common.{◌++◌, List, ℕ, [], subst, sym, ap, ◌∙◌}
use Rattle.std.proofs.lemmas.List.{append-nil}
use Rattle.ntp_packet.specs.Packet.{IsPacket}
use Rattle.ntp_trailer.specs.Authentic.{spelled_mac}
use Rattle.associations.specs.Requests.{request_header}
use Rattle.associations.proofs.asking.make_request.Goals as goal

pub returns-in-Some-clause-packet : goal.returns-in-Some-clause-packet
returns-in-Some-clause-packet c =
    let mac = spelled_mac c.in-Some.key.now c.put.new.self in
    let put = c.put.ensures ∙ ap (λ front. front ++ c.header_octets.result) c.new-request.ensures in
    subst (λ (octets : List ℕ). IsPacket octets (request_header c.args.line c.args.transmit))
    (sym (c.append_mac.ensures.spelled ∙ ap (λ octets. octets ++ mac) put))
    (c.header_octets.ensures.packet mac)

pub returns-in_default-clause-packet : goal.returns-in_default-clause-packet
returns-in_default-clause-packet c =
    let put = c.put.ensures ∙ ap (λ front. front ++ c.header_octets.result) c.new-request.ensures in
    subst (λ (octets : List ℕ). IsPacket octets (request_header c.args.line c.args.transmit))
    (append-nil c.header_octets.result ∙ sym put)
    (c.header_octets.ensures.packet [])
