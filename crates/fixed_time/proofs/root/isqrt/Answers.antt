use Rattle.fixed_time.proofs.RootLemmas.{root_is}
use Rattle.fixed_time.proofs.root.isqrt.Goals as goal

pub returns-clause-value : goal.returns-clause-value
returns-clause-value c =
    root_is c.args.n c.isqrt.result
    record { square_within = c.isqrt.ensures.square_le; greatest = c.isqrt.ensures.next_square_gt }
