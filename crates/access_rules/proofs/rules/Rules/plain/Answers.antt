use Rattle.std.proofs.Common.{List, [], ◌∷◌, ◌++◌, refl, ap, ◌∙◌, arith}
use Rattle.net_addr.specs.Addresses.{bits_of, number_of}
use Rattle.access_rules.specs.Rules.{IsPlain}
use Rattle.access_rules.specs.declared.rules.Rule.{Rule}
use Rattle.access_rules.proofs.RuleLemmas.{IsPlain-two}
use Rattle.access_rules.proofs.rules.Rules.plain.Goals as goal
use Rattle.access_rules.proofs.rules.Rules.plain.Goals.{After-push_reserved-2}

pub default_of-requires : goal.default_of-requires
unfolding number_of
default_of-requires c = refl

pub default_of-requires-2 : goal.default_of-requires-2
unfolding number_of
default_of-requires-2 c = refl

is_plain : (c : After-push_reserved-2) → IsPlain c.push_reserved-2.new.self.items
is_plain c =
    IsPlain-two c.push_reserved-2.new.self.items c.default_of.result c.default_of-2.result
    (c.push_reserved-2.ensures.items ∙ ap (λ (rules : List Rule). rules ++ c.default_of-2.result ∷ [])
    (c.push_reserved.ensures.items ∙ ap (λ (rules : List Rule). rules ++ c.default_of.result ∷ []) c.in_ok-rules.ensures.items))
    (ap bits_of c.default_of.ensures.ip) (ap bits_of c.default_of-2.ensures.ip)
    c.default_of.ensures.all c.default_of-2.ensures.all c.default_of.ensures.no_flags c.default_of-2.ensures.no_flags

pub invariant_of-result : goal.invariant_of-result
invariant_of-result c = ((is_plain c).table, omega (arith, c.in_ok-rules.ensures.capacity, c.push_reserved.ensures.capacity, c.push_reserved-2.ensures.capacity))

pub returns-clause-plain : goal.returns-clause-plain
returns-clause-plain c = is_plain c

pub returns-clause-wholes : goal.returns-clause-wholes
returns-clause-wholes c = (
  c.default_of.result,
  c.default_of-2.result,
  c.push_reserved-2.ensures.items ∙ ap (λ (rules : List Rule). rules ++ c.default_of-2.result ∷ [])
      (c.push_reserved.ensures.items ∙ ap (λ (rules : List Rule). rules ++ c.default_of.result ∷ []) c.in_ok-rules.ensures.items),
  record { same_ip = c.default_of.ensures.ip; all = c.default_of.ensures.all; no_flags = c.default_of.ensures.no_flags },
  record { same_ip = c.default_of-2.ensures.ip; all = c.default_of-2.ensures.all; no_flags = c.default_of-2.ensures.no_flags },
)
