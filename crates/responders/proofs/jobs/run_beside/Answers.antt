use Rattle.responders.proofs.jobs.run_beside.Goals as goal

pub returns-clause-worked : goal.returns-clause-worked
returns-clause-worked g c = λ opening opened ready. c.join.ensures.first opening ready
