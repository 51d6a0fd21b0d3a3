use Rattle.std.proofs.Common.{◌≡◌, Ok}
use Rattle.ntp_trailer.proofs.reading.read_packet.Goals as goal

pub returns-in-Err-split-clause-only : goal.returns-in-Err-split-clause-only
returns-in-Err-split-clause-only c packet whole = let none = c.in-Err-split.ensures.only packet.trailer whole.follows in absurd cc

pub returns-in-Ok-split-clause-only : goal.returns-in-Ok-split-clause-only
returns-in-Ok-split-clause-only c packet whole =
    let begins = c.in-Ok.ensures.only packet.header whole.begins in
    let follows = c.in-Ok-split.ensures.only packet.trailer whole.follows in
    let header : c.in-Ok.header ≡ packet.header = cc in
    let trailer : c.in-Ok-split.trailer ≡ packet.trailer = cc in
    λ i. Ok (record { header = header i; trailer = trailer i })
