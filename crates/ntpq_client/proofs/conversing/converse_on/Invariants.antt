use Rattle.std.proofs.Common.{◌≡◌, ◌-◌, None}
use Rattle.edge_traits.specs.Ports.{IsPortKept}
use Rattle.edge_traits.specs.Told.{Rose}
use Rattle.ntpq_client.specs.declared.client.TheConstants.{MAX_REQUESTS}
use Rattle.ntpq_client.specs.Talks.{stuck}
use Rattle.ntpq_client.specs.Dialogues.{Goes, dialogue_by, ready}
use Rattle.ntpq_client.proofs.conversing.converse_on.Given as goal

-- so far each request had its answer, or a silence
abbrev pub invariant-exchanges : goal.invariant-exchanges
invariant-exchanges g l = record {
  goes : Goes (dialogue_by g.D.Plan.due g.D.Plan.whole g.D.Plan.refused g.D.Plan.silent) (ready l.initial.client l.initial.plan) (ready l.client l.plan) (g.P.Port.trace l.initial.port) (g.P.Port.trace l.port);
  unstuck : stuck l.client ≡ None;
  quiets : Rose (l.client.quiets - l.initial.client.quiets) (g.P.Port.quiets l.initial.port) (g.P.Port.quiets l.port);
  kept : IsPortKept g.P.Port.faults g.P.Port.quiets g.P.Port.address g.P.Port.most l.initial.port l.port;
}

abbrev pub decreases-exchanges : goal.decreases-exchanges
decreases-exchanges g l = MAX_REQUESTS - l.client.posted
