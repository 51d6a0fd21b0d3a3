use Rattle.std.proofs.Common.{sym}
use Rattle.ntpq_client.specs.Dialogues.{dialogue_by}
use Rattle.ntpq_client.proofs.EndLemmas.{Causes-stuck}
use Rattle.ntpq_client.proofs.ConverseLemmas.{Conversed-stuck}
use Rattle.ntpq_client.proofs.conversing.converse.Goals as goal

pub returns-in-Some-clause-conversed : goal.returns-in-Some-clause-conversed
returns-in-Some-clause-conversed g c =
    Conversed-stuck (dialogue_by g.D.Plan.due g.D.Plan.whole g.D.Plan.refused g.D.Plan.silent) c.args.client.now c.args.plan.now c.in-Some.fault _ (sym c.in-Some.ensures)

pub returns-in-Some-clause-causes : goal.returns-in-Some-clause-causes
returns-in-Some-clause-causes g c = Causes-stuck c.args.client.now c.in-Some.fault _ _ _ (sym c.in-Some.ensures)
