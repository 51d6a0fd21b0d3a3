use Rattle.worker.proofs.TurnLemmas.{of_ok, swept-memory, with_opening}
use Rattle.worker.proofs.sweeping.sweep.Goals as goal

pub returns-clause-swept : goal.returns-clause-swept
returns-clause-swept g c = λ opening is.
    of_ok c.enter_or_stop.result _ _ (c.enter_or_stop.ensures.entered opening is) (λ entry entered. (c.now-now.result, entered, c.now-now.ensures))

pub returns-clause-memory : goal.returns-clause-memory
returns-clause-memory g c = λ same.
    with_opening _ c.requires.opened (λ opening is. swept-memory opening _ _ _ (c.enter_or_stop.ensures.lacking opening is same))
