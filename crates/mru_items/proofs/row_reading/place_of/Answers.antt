use Rattle.mru_items.proofs.RowLemmas.{among-dropped}
use Rattle.mru_items.proofs.row_reading.place_of.Goals as goal

pub returns-then-at-len-clause-found : goal.returns-then-at-len-clause-found
returns-then-at-len-clause-found c =
    λ d below. among-dropped c.args.name.now c.args.items.now c.next_named-at.result _ _ (c.next_named-at.ensures.named d below)
