use Rattle.server_core.proofs.MoveLemmas.{IsListHistory-legal, list_at-state}
use Rattle.server_core.proofs.laws.operations_move_the_client_list.Goals as goal

pub returns-clause-history : goal.returns-clause-history
returns-clause-history g c =
    let (list, rest) = c.requires in
    let (stamp, last) = rest in
    let (legal, moments) = last in
    IsListHistory-legal g.run.opening g.run.ops list stamp legal moments

pub returns-clause-places : goal.returns-clause-places
returns-clause-places g c = list_at-state g.run.opening g.run.ops
