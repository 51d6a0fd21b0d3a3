use Rattle.std.proofs.Common.{arith}
use Rattle.access_rules.proofs.RuleLemmas.{at_least_two}
use Rattle.access_rules.proofs.rules.Rules.len.Goals as goal

pub returns-clause-at_least : goal.returns-clause-at_least
returns-clause-at_least c = omega (arith, at_least_two c.self.inside.rules.items c.self.invariant.0.default_v4 c.self.invariant.0.default_v6)
