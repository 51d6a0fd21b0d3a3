use Rattle.std.proofs.Common.{◌≤◌, ◌^◌, ap, ◌∙◌, arith}
use Rattle.std.proofs.Math.Pow.{pow_mono}
use Rattle.associations.proofs.due_times.seconds_of.Goals as goal

pub returns-clause-most : goal.returns-clause-most
returns-clause-most c = let most : 2 ^ c.args.poll ≤ 2 ^ 17 = pow_mono c.requires in omega (arith, most, c.pow.ensures ∙ ap (λ n. 2 ^ n) c.from.ensures)
