use Rattle.responders.proofs.StopLemmas.{made_by}
use Rattle.responders.proofs.laws.the_stop_has_its_cause.Goals as goal

pub returns : goal.returns
returns g c = λ stop stood. made_by g.session stop c.requires stood
