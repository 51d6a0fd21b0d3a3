use Rattle.std.proofs.Common.{[], inr, sym}
use Rattle.std.proofs.lemmas.List.{append-nil}
use Rattle.std.proofs.lemmas.Result.{on_ok_weaker}
use Rattle.planned_link.specs.Services.{parts_of}
use Rattle.planned_link.proofs.ServiceLemmas.{IsService-response, IsService-refused, OnErr-any}
use Rattle.planned_link.proofs.serving.serve_once.Goals as goal

pub returns-in_err-grams-in-Ok-clause-brought : goal.returns-in_err-grams-in-Ok-clause-brought
returns-in_err-grams-in-Ok-clause-brought c =
    let ensures = c.in-Ok.ensures in
    OnErr-any c.from_residual.result
    (inr (_, IsService-response (parts_of c.args.delivery.now) c.args.book.now c.respond.new.book c.in-Ok.response ensures.response ensures.after ensures.accepted))

pub returns-in_ok-grams-in-Ok-clause-brought : goal.returns-in_ok-grams-in-Ok-clause-brought
returns-in_ok-grams-in-Ok-clause-brought c =
    let ensures = c.in-Ok.ensures in
    OnErr-any c.append.result
    (inr (_, IsService-response (parts_of c.args.delivery.now) c.args.book.now c.respond.new.book c.in-Ok.response ensures.response ensures.after ensures.accepted))

pub returns-in-Err-clause-served : goal.returns-in-Err-clause-served
returns-in-Err-clause-served c =
    let ensures = c.in-Err.ensures in
    on_ok_weaker c.pass_over.result
    (λ other. ([], IsService-refused (parts_of c.args.delivery.now) c.args.book.now c.respond.new.book c.in-Err.fault other ensures.kept ensures.untaken, sym (append-nil _)))
    c.pass_over.ensures
