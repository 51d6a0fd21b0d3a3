use Rattle.std.proofs.Common.{Ok, ap}
use Rattle.ntp_trailer.proofs.PacketLemmas.{packet_in, judged-one}
use Rattle.ntp_trailer.proofs.reading.judge_packet.Goals as goal

pub returns-in-Err-clause-only : goal.returns-in-Err-clause-only
returns-in-Err-clause-only c judged is =
    let none = c.in-Err.ensures.only (packet_in c.args.keys.now c.args.bytes.now judged is) is.packet in absurd cc

pub returns-in-Ok-clause-only : goal.returns-in-Ok-clause-only
returns-in-Ok-clause-only c judged is =
    ap Ok (judged-one c.args.keys.now c.args.bytes.now c.in-Ok.packet c.auth.result
    (λ other whole. let one = c.in-Ok.ensures.only other whole in cc) c.auth.ensures.only judged is)
