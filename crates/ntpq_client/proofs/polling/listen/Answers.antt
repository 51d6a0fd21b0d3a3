use Rattle.std.proofs.Common.{◌≡◌, Result, Err, sym, subst, ◌∙◌, rules}
use Rattle.ntpq_client.specs.declared.fault.AskFault.{AskFault}
use Rattle.ntpq_client.specs.declared.news.News.TheVariants.{Nothing}
use Rattle.ntpq_client.specs.declared.polling.Got.{Got}
use Rattle.ntpq_client.specs.Ends.{Listened}
use Rattle.ntpq_client.proofs.EndLemmas.{Causes-quiet, Causes-stuck, IsPortKept-then, Rose-then, Goes-took, Listened-stuck, Listened-whole, Listened-denied, Listened-quiet, Listened-failed}
use Rattle.ntpq_client.proofs.polling.listen.Goals as goal

pub returns-in_err-take_one-clause-listened : goal.returns-in_err-take_one-clause-listened
returns-in_err-take_one-clause-listened g c =
    let is : c.from_residual.result ≡ Err c.in_err-take_one.field-0.0 = search rules in
    subst (λ (result : Result Got AskFault). Listened c.args.client.now c.take_one.new.client result (g.P.Port.trace c.args.port.now) (g.P.Port.trace c.take_one.new.port)) (sym is)
    (Listened-failed _ _ _ _ _ _ _ c.listening.invariant.goes c.listening.invariant.unstuck c.in_err-take_one.ensures.took)

pub returns-in-Answered-clause-listened : goal.returns-in-Answered-clause-listened
returns-in-Answered-clause-listened g c =
    let took = rw c.in-Answered.is at c.in_ok-take_one.ensures.took in
    Listened-whole _ _ _ _ _ _ _ _ c.listening.invariant.goes c.listening.invariant.unstuck took

pub returns-in-Denied-clause-listened : goal.returns-in-Denied-clause-listened
returns-in-Denied-clause-listened g c =
    let took = rw c.in-Denied.is at c.in_ok-take_one.ensures.took in
    Listened-denied _ _ _ _ _ _ _ c.listening.invariant.goes c.listening.invariant.unstuck took

pub returns-in-Quiet-clause-listened : goal.returns-in-Quiet-clause-listened
returns-in-Quiet-clause-listened g c =
    let took = rw c.in-Quiet.is at c.in_ok-take_one.ensures.took in
    Listened-quiet _ _ _ _ _ _ _ c.listening.invariant.goes c.listening.invariant.unstuck took c.quiet.ensures.unstuck c.quiet.ensures.quiet c.quiet.ensures.stuck

pub returns-in-Quiet-clause-causes : goal.returns-in-Quiet-clause-causes
returns-in-Quiet-clause-causes g c = Causes-quiet c.take_one.new.client c.quiet.result _ _ _ c.quiet.ensures.stuck

pub returns-in-Some-clause-listened : goal.returns-in-Some-clause-listened
returns-in-Some-clause-listened g c =
    let took = rw c.in-Nothing.is at c.in_ok-take_one.ensures.took in
    Listened-stuck _ _ _ _ _ (Goes-took _ _ _ Nothing _ _ _ c.listening.invariant.goes c.listening.invariant.unstuck took) (sym c.in-Some.ensures)

pub returns-in-Some-clause-causes : goal.returns-in-Some-clause-causes
returns-in-Some-clause-causes g c = Causes-stuck c.take_one.new.client c.in-Some.fault _ _ _ (sym c.in-Some.ensures)

pub listening-preserved : goal.listening-preserved
listening-preserved g c =
    let took = rw c.in-Nothing.is at c.in_ok-take_one.ensures.took in
    record {
      goes = Goes-took _ _ _ Nothing _ _ _ c.listening.invariant.goes c.listening.invariant.unstuck took;
      unstuck = sym c.stuck.ensures ∙ c.in_default.is;
      posted = c.in_ok-take_one.ensures.posted ∙ c.listening.invariant.posted;
      quiets = Rose-then c.args.client.now.quiets c.listening.client.quiets c.take_one.new.client.quiets _ _ _ c.listening.invariant.quiets c.in_ok-take_one.ensures.quiets;
      kept = IsPortKept-then _ _ _ _ _ _ _ c.listening.invariant.kept c.in_ok-take_one.ensures.kept;
    }
