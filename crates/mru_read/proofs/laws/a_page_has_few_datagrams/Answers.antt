use Rattle.mru_read.proofs.GramLemmas.{parts-least}
use Rattle.mru_read.proofs.LongestLemmas.{begun-few, page-begun}
use Rattle.mru_read.proofs.laws.a_page_has_few_datagrams.Goals as goal

pub returns : goal.returns
returns g c = record {
  some = parts-least g.given.page;
  few = begun-few g.given.rows c.args.request.now c.args.now g.given.page c.requires.0
      (page-begun g.given.rows c.args.request.now c.args.now g.given.page c.requires.0 c.requires.1);
}
