use Rattle.responders.proofs.LawLemmas.{one_act}
use Rattle.responders.proofs.laws.each_request_is_one_act.Goals as goal

pub returns : goal.returns
returns g c = λ place op here. one_act g.session place op c.requires here
