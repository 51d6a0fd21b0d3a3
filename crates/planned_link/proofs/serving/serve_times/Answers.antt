use Rattle.planned_link.specs.Services.{parts_of}
use Rattle.planned_link.proofs.ServiceLemmas.{AreServices-brought, AreServices-next, OnErr-any}
use Rattle.planned_link.proofs.serving.serve_times.Goals as goal

pub loop-preserved : goal.loop-preserved
loop-preserved c =
    AreServices-next c.loop.counter (parts_of c.args.delivery.now) c.args.book.now c.loop.answers.items c.serve_once.new.answers.items c.loop.book c.serve_once.new.book c.loop.invariant c.in_ok-serve_once.ensures.served

pub returns-in_err-serve_once-clause-brought : goal.returns-in_err-serve_once-clause-brought
returns-in_err-serve_once-clause-brought c =
    OnErr-any c.from_residual.result
    (AreServices-brought c.loop.counter c.args.times (parts_of c.args.delivery.now) c.args.book.now c.loop.answers.items c.loop.book c.serve_once.new.book c.loop-test.true c.loop.invariant c.in_err-serve_once.ensures.brought)
