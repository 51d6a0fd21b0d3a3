use Rattle.std.proofs.Common.{◌≡◌, ℕ, List, Result, Err, sym, ap, subst, rules}
use Rattle.ntpq_client.specs.declared.fault.AskFault.{AskFault}
use Rattle.ntpq_client.specs.Dialogues.{SingleParts}
use Rattle.ntpq_client.specs.Ends.{Asked}
use Rattle.ntpq_client.proofs.AskLemmas.{Asked-fault, Asked-over}
use Rattle.ntpq_client.proofs.client.Client.ask.Goals as goal

pub returns-in_err-converse-clause-asked : goal.returns-in_err-converse-clause-asked
returns-in_err-converse-clause-asked g c =
    let is : c.from_residual.result ≡ Err c.in_err-converse.field-0.0 = search rules in
    subst (λ (result : Result (ℕ × List ℕ) AskFault). Asked c.args.request.now c.args.self.now c.converse.new.client result (g.P.Port.trace c.args.port.now) (g.P.Port.trace c.converse.new.port)) (sym is)
    (Asked-fault c.args.request.now c.args.self.now c.converse.new.client c.converse.new.plan c.in_err-converse.field-0.0 _ _ c.in_err-converse.ensures.conversed)

pub returns-clause-asked : goal.returns-clause-asked
returns-clause-asked g c =
    Asked-over c.args.request.now c.args.self.now c.converse.new.client c.converse.new.plan _ c.answer_of.result _ _ c.in_ok-converse.ensures.conversed (ap (λ (s : SingleParts). s.news) (sym c.single.view_is)) c.answer_of.ensures
