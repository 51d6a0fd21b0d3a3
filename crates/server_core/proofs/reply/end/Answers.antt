use Rattle.server_core.proofs.ShownLemmas.{Shows-absent, Shows-bad}
use Rattle.server_core.proofs.reply.end.Goals as goal

pub returns-in-Absent-clause-shown : goal.returns-in-Absent-clause-shown
returns-in-Absent-clause-shown c = rw c.in-Absent.is (Shows-absent c.args.keys.now c.args.reply.now c.requires.header)

pub returns-in-Bad-clause-shown : goal.returns-in-Bad-clause-shown
returns-in-Bad-clause-shown c =
    rw (c.in-Bad.is, c.append_nak.ensures) (Shows-bad c.args.keys.now c.args.reply.now c.requires.header)
