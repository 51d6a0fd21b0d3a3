use Rattle.std.proofs.Common.{arith}
use Rattle.drawn_session.proofs.EndLemmas.{session-ended}
use Rattle.drawn_session.proofs.RunLemmas.{two-left-of}
use Rattle.drawn_session.proofs.run.finish.Goals as goal

pub counts_of-counts-requires : goal.counts_of-counts-requires
counts_of-counts-requires c = two-left-of c.args.number c.args.session c.args.outcome c.requires.ran c.requires.served

pub returns : goal.returns
returns c =
    session-ended c.args.number c.args.session c.args.outcome c.counts_of-counts.result (omega (arith, c.ranges.number)) c.requires.ran c.requires.served
    c.counts_of-counts.ensures.counts c.counts_of-counts.ensures.ports
