use Rattle.std.proofs.Common.{◌≡◌, Bool, Result, Err, Some, sym, subst, rules}
use Rattle.ntpq_client.specs.declared.fault.AskFault.{AskFault}
use Rattle.ntpq_client.specs.Dialogues.{dialogue_by}
use Rattle.ntpq_client.specs.Exchanges.{Exchanged}
use Rattle.ntpq_client.proofs.DialogueLemmas.{Goes-posted}
use Rattle.ntpq_client.proofs.ConverseLemmas.{Conversed-unposted, Exchanged-told}
use Rattle.ntpq_client.proofs.conversing.exchange.Goals as goal

pub returns-in_err-post-in-Some-clause-exchanged : goal.returns-in_err-post-in-Some-clause-exchanged
returns-in_err-post-in-Some-clause-exchanged g c =
    let d = dialogue_by g.D.Plan.due g.D.Plan.whole g.D.Plan.refused g.D.Plan.silent in
    let is : c.from_residual.result ≡ Err c.in_err-post-in-Some.field-0.0 = search rules in
    let due : g.D.Plan.due c.args.plan.now ≡ Some c.in-Some.request.now = c.in-Some.ensures.value in
    let post = c.in_err-post-in-Some.ensures in
    subst (λ (result : Result Bool AskFault). Exchanged d c.args.client.now c.args.plan.now c.post.new.self c.args.plan.now result (g.P.Port.trace c.args.port.now) (g.P.Port.trace c.post.new.port)) (sym is)
    (Conversed-unposted d c.args.client.now c.post.new.self c.args.plan.now c.in-Some.request.now c.in_err-post-in-Some.field-0.0 _ _ due post.ends post.client_kept post.unsent)

pub returns-clause-exchanged : goal.returns-clause-exchanged
returns-clause-exchanged g c =
    let d = dialogue_by g.D.Plan.due g.D.Plan.whole g.D.Plan.refused g.D.Plan.silent in
    let post = c.in_ok-post-in-Some.ensures in
    Exchanged-told d c.args.client.now c.post.new.self c.poll-got.new.self c.args.plan.now c.tell.new.plan c.poll-got.result c.tell.result _ _ _
    (Goes-posted d c.args.client.now c.post.new.self c.args.plan.now c.in-Some.request.now _ _ c.requires.unstuck c.in-Some.ensures.value post.ends.1 post.reads post.sent post.after)
    c.poll-got.ensures.listened c.tell.ensures
