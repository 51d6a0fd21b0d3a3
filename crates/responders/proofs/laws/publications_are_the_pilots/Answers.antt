use Rattle.responders.proofs.LawLemmas.{pilots_publications}
use Rattle.responders.proofs.laws.publications_are_the_pilots.Goals as goal

pub returns : goal.returns
returns g c = λ is. pilots_publications g.session is
