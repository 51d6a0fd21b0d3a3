use Rattle.mru_read.proofs.LongestLemmas.{begun-front, page-begun}
use Rattle.mru_read.proofs.laws.a_page_is_the_longest.Goals as goal

pub returns : goal.returns
returns g c =
    let front = begun-front g.given.rows c.args.request.now c.args.now g.given.page g.given.start c.requires.0
    (page-begun g.given.rows c.args.request.now c.args.now g.given.page c.requires.0 c.requires.1.1) c.requires.1.0 in
    record { rows = front.0; most = front.1 }
