use Rattle.std.proofs.Common.{sym}
use Rattle.ntpq_client.specs.declared.news.News.TheVariants.{Nothing}
use Rattle.ntpq_client.specs.Dialogues.{listening, waiting}
use Rattle.ntpq_client.proofs.DialogueLemmas.{Goes-none}
use Rattle.ntpq_client.proofs.EndLemmas.{Listened-stuck, Causes-stuck}
use Rattle.ntpq_client.proofs.client.Client.poll.Goals as goal

pub returns-in-Some-clause-listened : goal.returns-in-Some-clause-listened
returns-in-Some-clause-listened g c = Listened-stuck c.args.self.now _ c.in-Some.fault _ _ (Goes-none listening (waiting c.args.self.now Nothing) _) (sym c.in-Some.ensures)

pub returns-in-Some-clause-causes : goal.returns-in-Some-clause-causes
returns-in-Some-clause-causes g c = Causes-stuck c.args.self.now c.in-Some.fault _ _ _ (sym c.in-Some.ensures)
