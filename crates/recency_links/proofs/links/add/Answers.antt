use Rattle.std.proofs.Common.{◌≡◌, ◌++◌, ◌∷◌, [], ap, ◌∙◌, arith}
use Rattle.recency.specs.declared.row.Row.{Row}
use Rattle.recency_links.specs.Lists.{rows_of}
use Rattle.recency_links.proofs.OperationLemmas.{free-IsLoose, free-IsWithin, free-added}
use Rattle.recency_links.proofs.links.add.Goals as goal

pub read-node-requires : goal.read-node-requires
read-node-requires g c = omega (arith, free-IsWithin c.requires.list c.requires.room, c.args.links.now.nodes.ok.0)

pub set_row-requires : goal.set_row-requires
set_row-requires g c = omega (arith, free-IsWithin c.requires.list c.requires.room, c.args.links.now.nodes.ok.0)

pub push_newest-requires-clause-number : goal.push_newest-requires-clause-number
push_newest-requires-clause-number g c = omega (arith, (free-IsLoose c.requires.list c.requires.room c.set_row.ensures).it, c.set_row.new.nodes.ok.0)

pub push_newest-requires-clause-newest : goal.push_newest-requires-clause-newest
push_newest-requires-clause-newest g c = omega (arith, (free-IsLoose c.requires.list c.requires.room c.set_row.ensures).newest, c.set_row.new.nodes.ok.0)

pub push_newest-requires-clause-used : goal.push_newest-requires-clause-used
push_newest-requires-clause-used g c = (free-IsLoose c.requires.list c.requires.room c.set_row.ensures).used

pub push_newest-requires-clause-apart : goal.push_newest-requires-clause-apart
push_newest-requires-clause-apart g c = (free-IsLoose c.requires.list c.requires.room c.set_row.ensures).apart

pub returns-clause-list : goal.returns-clause-list
returns-clause-list g c =
    (free-added c.requires.list c.requires.room c.requires.absent c.in_ok-note.ensures.noted c.read-node.ensures.node c.set_row.ensures c.push_newest.ensures (ap (λ (row : Row). row.ip) c.new_row.ensures)).list

pub returns-clause-rows : goal.returns-clause-rows
returns-clause-rows g c =
    (free-added c.requires.list c.requires.room c.requires.absent c.in_ok-note.ensures.noted c.read-node.ensures.node c.set_row.ensures c.push_newest.ensures (ap (λ (row : Row). row.ip) c.new_row.ensures)).rows_are
    ∙ ap (λ row. rows_of c.args.links.now ++ row ∷ []) c.new_row.ensures
