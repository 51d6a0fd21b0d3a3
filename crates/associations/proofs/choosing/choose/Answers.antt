use Rattle.associations.proofs.ChoosingLemmas.{choice_same}
use Rattle.associations.proofs.choosing.choose.Goals as goal

pub returns-in-None-clause-only : goal.returns-in-None-clause-only
returns-in-None-clause-only c = λ other is. choice_same c.args.candidates.now _ other c.in-None.ensures.none is

pub returns-in-Some-clause-only : goal.returns-in-Some-clause-only
returns-in-Some-clause-only c = λ other is. choice_same c.args.candidates.now _ other (c.in-Some.ensures.selected, c.cluster.ensures.left) is
