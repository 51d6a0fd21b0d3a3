use Rattle.std.proofs.Common.{◌≡◌, Result, Err, sym, subst, rules}
use Rattle.ntpq_client.specs.declared.fault.AskFault.{AskFault}
use Rattle.ntpq_client.specs.Dialogues.{dialogue_by, ready}
use Rattle.ntpq_client.specs.Ends.{Conversed}
use Rattle.ntpq_client.proofs.EndLemmas.{IsPortKept-then, Rose-then}
use Rattle.ntpq_client.proofs.DialogueLemmas.{Goes-then}
use Rattle.ntpq_client.proofs.ConverseLemmas.{Conversed-then, Conversed-over}
use Rattle.ntpq_client.proofs.conversing.converse_on.Goals as goal

pub returns-in_err-goes_on-clause-conversed : goal.returns-in_err-goes_on-clause-conversed
returns-in_err-goes_on-clause-conversed g c =
    let d = dialogue_by g.D.Plan.due g.D.Plan.whole g.D.Plan.refused g.D.Plan.silent in
    let is : c.from_residual.result ≡ Err c.in_err-goes_on.field-0.0 = search rules in
    subst (λ (result : Result (Unit {0}) AskFault). Conversed d c.args.client.now c.args.plan.now c.exchange.new.client c.exchange.new.plan result (g.P.Port.trace c.args.port.now) (g.P.Port.trace c.exchange.new.port)) (sym is)
    (Conversed-then d c.args.client.now c.exchanges.client _ c.args.plan.now c.exchanges.plan _ _ _ _ _ c.exchanges.invariant.goes c.in_err-goes_on.ensures.exchanged)

pub returns-then-not-goes_on-clause-conversed : goal.returns-then-not-goes_on-clause-conversed
returns-then-not-goes_on-clause-conversed g c =
    let d = dialogue_by g.D.Plan.due g.D.Plan.whole g.D.Plan.refused g.D.Plan.silent in
    let over = rw c.if-not-goes_on.true at c.in_ok-goes_on.ensures.exchanged in
    Conversed-then d c.args.client.now c.exchanges.client _ c.args.plan.now c.exchanges.plan _ _ _ _ _ c.exchanges.invariant.goes
    (Conversed-over d c.exchanges.client c.exchange.new.client c.exchanges.plan c.exchange.new.plan _ _ c.exchanges.invariant.unstuck over.0 over.1 over.2 over.3)

pub exchanges-preserved : goal.exchanges-preserved
exchanges-preserved g c =
    let d = dialogue_by g.D.Plan.due g.D.Plan.whole g.D.Plan.refused g.D.Plan.silent in
    let on = rw c.if-not-goes_on.false at c.in_ok-goes_on.ensures.exchanged in
    record {
      goes = Goes-then d (ready c.args.client.now c.args.plan.now) (ready c.exchanges.client c.exchanges.plan) (ready c.exchange.new.client c.exchange.new.plan) (g.P.Port.trace c.args.port.now) (g.P.Port.trace c.exchanges.port) (g.P.Port.trace c.exchange.new.port) c.exchanges.invariant.goes on.0;
      unstuck = on.1;
      quiets = Rose-then c.args.client.now.quiets c.exchanges.client.quiets c.exchange.new.client.quiets _ _ _ c.exchanges.invariant.quiets c.in_ok-goes_on.ensures.quiets;
      kept = IsPortKept-then g.P.Port.faults g.P.Port.quiets g.P.Port.address g.P.Port.most c.args.port.now c.exchanges.port c.exchange.new.port c.exchanges.invariant.kept c.in_ok-goes_on.ensures.kept;
    }
