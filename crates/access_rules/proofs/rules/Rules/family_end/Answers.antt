use Rattle.std.proofs.Common.{rules, nat_le, subst, ◌∙◌}
use Rattle.net_addr.specs.Addresses.{bits_of}
use Rattle.access_rules.specs.Rules.{IsRules}
use Rattle.access_rules.specs.declared.rules.Rule.{Rule}
use Rattle.access_rules.proofs.PlaceLemmas.{families_in_front, point-front_len}
use Rattle.access_rules.proofs.rules.Rules.family_end.Goals as goal

pub returns-clause-end : goal.returns-clause-end
returns-clause-end c =
    point-front_len (λ (rule : Rule). nat_le (bits_of rule.prefix.ip) (bits_of c.args.ip.now)) c.args.self.now c.as_slice.result.now c.partition_point.result
    (c.as_slice.ensures.value ∙ c.self.view_is) c.partition_point.ensures.bound c.partition_point.ensures.partitioned
    (families_in_front c.args.self.now c.args.ip.now (subst IsRules c.self.view_is c.self.invariant.0)) (λ a r q k. search rules)
