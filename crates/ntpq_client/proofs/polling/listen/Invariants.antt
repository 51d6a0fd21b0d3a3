use Rattle.std.proofs.Common.{◌≡◌, ◌-◌, None}
use Rattle.edge_traits.specs.Ports.{IsPortKept}
use Rattle.edge_traits.specs.Told.{Rose}
use Rattle.ntpq_client.specs.declared.news.News.TheVariants.{Nothing}
use Rattle.ntpq_client.specs.Talks.{stuck, patience}
use Rattle.ntpq_client.specs.Dialogues.{Goes, listening, waiting}
use Rattle.ntpq_client.proofs.polling.listen.Given as goal

-- so far there was no news
abbrev pub invariant-listening : goal.invariant-listening
invariant-listening g l = record {
  goes : Goes listening (waiting l.initial.client Nothing) (waiting l.client Nothing) (g.P.Port.trace l.initial.port) (g.P.Port.trace l.port);
  unstuck : stuck l.client ≡ None;
  posted : l.client.posted ≡ l.initial.client.posted;
  quiets : Rose (l.client.quiets - l.initial.client.quiets) (g.P.Port.quiets l.initial.port) (g.P.Port.quiets l.port);
  kept : IsPortKept g.P.Port.faults g.P.Port.quiets g.P.Port.address g.P.Port.most l.initial.port l.port;
}

abbrev pub decreases-listening : goal.decreases-listening
decreases-listening g l = patience l.client
