use Rattle.std.proofs.Common.{arith, ◌∙◌, sym, ap, Ok}
use Rattle.ntp_packet.proofs.Spelling.{header_at-packet, fault_of-packet, packet-header_at}
use Rattle.ntp_packet.specs.declared.packet.Header.{Header}
use Rattle.ntp_packet.specs.Fields.{header_at}
use Rattle.ntp_packet.proofs.reading.read.Goals as goal

pub returns-in-Some-clause-only : goal.returns-in-Some-clause-only
returns-in-Some-clause-only c h is =
    let none = fault_of-packet c.args.bytes.now h is in
    cc

pub returns-in-None-clause-found : goal.returns-in-None-clause-found
returns-in-None-clause-found c =
    let none = sym c.first_fault.ensures ∙ c.in-None.is in
    rw c.header_in.ensures (packet-header_at c.args.bytes.now (λ i. omega (arith, c.type_inv.bytes i)) none)

pub returns-in-None-clause-only : goal.returns-in-None-clause-only
returns-in-None-clause-only c h is = ap Ok (c.header_in.ensures ∙ header_at-packet c.args.bytes.now h is)

pub returns-in-None-clause-fits : goal.returns-in-None-clause-fits
returns-in-None-clause-fits c =
    let none = sym c.first_fault.ensures ∙ c.in-None.is in
    rw c.header_in.ensures (packet-header_at c.args.bytes.now (λ i. omega (arith, c.type_inv.bytes i)) none).fits

pub returns-in-None-clause-version : goal.returns-in-None-clause-version
unfolding header_at
returns-in-None-clause-version c = ap (λ (h : Header). h.version) c.header_in.ensures

pub returns-in-None-clause-mode : goal.returns-in-None-clause-mode
unfolding header_at
returns-in-None-clause-mode c = ap (λ (h : Header). h.mode) c.header_in.ensures
