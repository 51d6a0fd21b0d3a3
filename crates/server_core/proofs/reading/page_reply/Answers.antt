use Rattle.std.proofs.Common.{arith}
use Rattle.server_core.proofs.ReadProps.{IsRead-known}
use Rattle.server_core.proofs.reading.page_reply.Goals as goal

pub page-requires : goal.page-requires
page-requires g c = IsRead-known c.args.ask.now.request c.args.ask.now.read

pub returns-in-Ok-clause-tellable : goal.returns-in-Ok-clause-tellable
returns-in-Ok-clause-tellable g c =
    let read = IsRead-known c.args.ask.now.request c.args.ask.now.read in
    (c.in-Ok.ensures.tellable, omega (arith, c.in-Ok.ensures.few, read.most))
