use Rattle.std.proofs.Common.{List, subst}
use Rattle.std.proofs.lemmas.Result.{IfErr-weaker, IfOk-weaker}
use Rattle.server_core.specs.declared.op.Op.{Op}
use Rattle.server_core.specs.Histories.{AreSteps}
use Rattle.planned_link.specs.Services.{parts_of}
use Rattle.planned_link.proofs.ServiceLemmas.{IsBrought-times}
use Rattle.planned_link.proofs.serving.serve.Goals as goal

pub returns-clause-served : goal.returns-clause-served
returns-clause-served c =
    IfOk-weaker c.serve_times.result _ _ (λ answers services. record {
      replies = c.in_ok-_replies._replies;
      between = c.perform.new.book;
      steps = subst (λ (ops : List Op). AreSteps c.args.book.now ops c.in_ok-_replies._replies c.perform.new.book) c.into_vec.ensures c.in_ok-_replies.ensures.steps;
      services = services;
    }) c.serve_times.ensures.served

pub returns-clause-brought : goal.returns-clause-brought
returns-clause-brought c =
    let steps = subst (λ (ops : List Op). AreSteps c.args.book.now ops c.in_ok-_replies._replies c.perform.new.book) c.into_vec.ensures c.in_ok-_replies.ensures.steps in
    IfErr-weaker c.serve_times.result _ _
    (λ fault brought. IsBrought-times c.args.ops c.in_ok-_replies._replies c.args.times (parts_of c.args.delivery.now) c.args.book.now c.perform.new.book c.serve_times.new.book steps brought)
    c.serve_times.ensures.brought
