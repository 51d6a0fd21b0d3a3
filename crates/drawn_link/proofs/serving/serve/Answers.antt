use Rattle.drawn_link.proofs.GoingLemmas.{Runs-then}
use Rattle.drawn_link.proofs.ServiceLemmas.{AreServices-more, Runs-AreServices}
use Rattle.drawn_link.proofs.serving.serve.Goals as goal

pub loop-preserved : goal.loop-preserved
loop-preserved c =
    AreServices-more c.args.visit.now.common.now c.args.visit.now.from c.args.visit.now.octets.now c.args.book.now c.loop.services.items c.serve_once.new.services.items c.loop.book c.serve_once.new.book c.loop.invariant c.in_ok-serve_once.ensures.served

pub returns-in_err-serve_once-clause-runs : goal.returns-in_err-serve_once-clause-runs
returns-in_err-serve_once-clause-runs c =
    Runs-then c.args.book.now c.loop.book c.serve_once.new.book
    (Runs-AreServices c.args.visit.now.common.now c.args.visit.now.from c.args.visit.now.octets.now c.args.book.now c.loop.services.items c.loop.book c.loop.invariant) c.in_err-serve_once.ensures.runs

pub returns-clause-runs : goal.returns-clause-runs
returns-clause-runs c = Runs-AreServices c.args.visit.now.common.now c.args.visit.now.from c.args.visit.now.octets.now c.args.book.now c.loop.services.items c.loop.book c.loop.invariant
