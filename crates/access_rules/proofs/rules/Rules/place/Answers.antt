use Rattle.std.proofs.Common.{rules, subst, ◌∙◌}
use Rattle.access_rules.specs.Order.{prefix_before}
use Rattle.access_rules.specs.Rules.{IsRules}
use Rattle.access_rules.specs.declared.rules.Rule.{Rule}
use Rattle.access_rules.proofs.PlaceLemmas.{before_in_front, point-front_len}
use Rattle.access_rules.proofs.rules.Rules.place.Goals as goal

pub returns-clause-place : goal.returns-clause-place
returns-clause-place c =
    point-front_len (λ (rule : Rule). prefix_before rule.prefix c.args.prefix.now) c.args.self.now c.as_slice.result.now c.partition_point.result
    (c.as_slice.ensures.value ∙ c.self.view_is) c.partition_point.ensures.bound c.partition_point.ensures.partitioned
    (before_in_front c.args.self.now c.args.prefix.now (subst IsRules c.self.view_is c.self.invariant.0)) (λ a r q k. search rules)
