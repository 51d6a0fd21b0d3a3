use Rattle.std.proofs.Common.{◌<◌, ◌^◌, take}
use Rattle.std.specs.List.{AllByRecursion}
use Rattle.access_rules.specs.declared.rules.Rule.{Rule}
use Rattle.list_telling.proofs.laws.rules_have_flags.Given as goal

abbrev pub invariant-loop-place : goal.invariant-loop-place
invariant-loop-place l = AllByRecursion (λ (rule : Rule). rule.flags < 2 ^ 16) (take l.place l.rules)
