-- What an edit at the place of a prefix makes of a list of rules.
use Rattle.std.proofs.Common.{◌≡◌, ◌≢◌, ℕ, ◌≤◌, cond, true, false, List, length, get_or, set, Some, None, sym, ap, subst, ◌∙◌, arith, bit_or}
use Rattle.std.specs.List.{insert, remove}
use Rattle.net_addr.specs.declared.prefix.Prefix.{Prefix}
use Rattle.access_rules.specs.declared.rules.Rule.{Rule}
use Rattle.access_rules.specs.Flags.{joined}
use Rattle.access_rules.specs.Order.{same_prefix}
use Rattle.access_rules.specs.Places.{is_placed, place_of}
use Rattle.access_rules.specs.Rules.{IsRules, flags_at, is_default, rules_with, rules_without}
use Rattle.access_rules.proofs.PlaceLemmas.{insert-new, remove-there, set-cleared, set-joined}
use Rattle.access_rules.proofs.RuleLemmas.{Ascend-from_pairs, IsRules-with, IsRules-without, flags_at-placed, flags_at-with, flags_at-without, length-with_new, length-with_placed}

-- what flags of a prefix make of a list of rules
pub record IsAdded (rules : List Rule) (prefix : Prefix) (flags : ℕ) (after : List Rule) : Type 0 where
  pub added : after ≡ rules_with rules prefix flags
  pub at_each : (other : Prefix) → flags_at after other ≡ cond (same_prefix prefix other) (Some (joined (flags_at rules other) flags)) (flags_at rules other)
  pub table : IsRules after

-- what remains of a list of rules
pub record IsRemoved (rules : List Rule) (prefix : Prefix) (after : List Rule) : Type 0 where
  pub removed : after ≡ rules_without rules prefix
  pub at_each : (other : Prefix) → flags_at after other ≡ cond (same_prefix prefix other) (cond (is_default prefix) (Some 0) None) (flags_at rules other)
  pub table : IsRules after

is_added : (rules after : List Rule) (prefix : Prefix) (flags : ℕ) → IsRules rules → after ≡ rules_with rules prefix flags → length (rules_with rules prefix flags) ≤ 1024
    → IsAdded rules prefix flags after
is_added rules after prefix flags table same room = record {
  added = same;
  at_each = λ other. ap (λ (xs : List Rule). flags_at xs other) same ∙ flags_at-with rules prefix flags other (Ascend-from_pairs rules table.ascending);
  table = subst IsRules (sym same) (IsRules-with rules prefix flags table room);
}

is_removed : (rules after : List Rule) (prefix : Prefix) → IsRules rules → is_placed rules prefix ≡ true → after ≡ rules_without rules prefix → IsRemoved rules prefix after
is_removed rules after prefix table placed same = record {
  removed = same;
  at_each = λ other. ap (λ (xs : List Rule). flags_at xs other) same ∙
      flags_at-without rules prefix other (Ascend-from_pairs rules table.ascending) (flags_at-placed rules prefix placed);
  table = subst IsRules (sym same) (IsRules-without rules prefix table);
}

-- the rule at the place of a prefix, in a list as it is seen
seen_there : (rules seen : List Rule) (prefix : Prefix) (place : ℕ) (rule : Rule) → seen ≡ rules → place ≡ place_of rules prefix → rule ≡ get_or seen place rule
    → rule ≡ get_or rules (place_of rules prefix) rule
seen_there rules seen prefix place rule same at here =
    here ∙ ap (λ (xs : List Rule). get_or xs place rule) same ∙ ap (λ n. get_or rules n rule) at

-- flags are joined to those of the rule at the place of a prefix
pub IsAdded-joined : (rules seen : List Rule) (prefix : Prefix) (flags place : ℕ) (rule : Rule) → IsRules rules → seen ≡ rules → place ≡ place_of rules prefix
    → is_placed rules prefix ≡ true → rule ≡ get_or seen place rule
    → IsAdded rules prefix flags (set seen place (record { prefix = rule.prefix; flags = bit_or rule.flags flags }))
IsAdded-joined rules seen prefix flags place rule table same at placed here =
    is_added rules (set seen place (record { prefix = rule.prefix; flags = bit_or rule.flags flags })) prefix flags table
    (ap (λ (xs : List Rule). set xs place (record { prefix = rule.prefix; flags = bit_or rule.flags flags })) same ∙
    ap (λ n. set rules n (record { prefix = rule.prefix; flags = bit_or rule.flags flags })) at ∙
    ap (λ (r : Rule). set rules (place_of rules prefix) (record { prefix = r.prefix; flags = bit_or r.flags flags })) (seen_there rules seen prefix place rule same at here) ∙
    set-joined rules prefix flags rule placed)
    (omega (arith, length-with_placed rules prefix flags placed, table.room))

-- a rule is put at the place of its prefix
pub IsAdded-inserted : (rules seen : List Rule) (prefix : Prefix) (flags place : ℕ) → IsRules rules → seen ≡ rules → place ≡ place_of rules prefix
    → is_placed rules prefix ≡ false → length rules ≢ 1024 → IsAdded rules prefix flags (insert seen place (record { prefix = prefix; flags = flags }))
IsAdded-inserted rules seen prefix flags place table same at placed not_full =
    is_added rules (insert seen place (record { prefix = prefix; flags = flags })) prefix flags table
    (ap (λ (xs : List Rule). insert xs place (record { prefix = prefix; flags = flags })) same ∙
    ap (λ n. insert rules n (record { prefix = prefix; flags = flags })) at ∙
    insert-new rules prefix flags placed)
    (omega (arith, length-with_new rules prefix flags placed, table.room, not_full))

-- the flags of a default are taken at its place
pub IsRemoved-cleared : (rules seen : List Rule) (prefix : Prefix) (place : ℕ) (rule : Rule) → IsRules rules → seen ≡ rules → place ≡ place_of rules prefix
    → is_placed rules prefix ≡ true → is_default prefix ≡ true → rule ≡ get_or seen place rule
    → IsRemoved rules prefix (set seen place (record { prefix = rule.prefix; flags = 0 }))
IsRemoved-cleared rules seen prefix place rule table same at placed all here =
    is_removed rules (set seen place (record { prefix = rule.prefix; flags = 0 })) prefix table placed
    (ap (λ (xs : List Rule). set xs place (record { prefix = rule.prefix; flags = 0 })) same ∙
    ap (λ n. set rules n (record { prefix = rule.prefix; flags = 0 })) at ∙
    ap (λ (r : Rule). set rules (place_of rules prefix) (record { prefix = r.prefix; flags = 0 })) (seen_there rules seen prefix place rule same at here) ∙
    set-cleared rules prefix rule placed all)

-- a rule is taken out at the place of its prefix
pub IsRemoved-taken : (rules seen : List Rule) (prefix : Prefix) (place : ℕ) → IsRules rules → seen ≡ rules → place ≡ place_of rules prefix
    → is_placed rules prefix ≡ true → is_default prefix ≡ false → IsRemoved rules prefix (remove seen place)
IsRemoved-taken rules seen prefix place table same at placed other =
    is_removed rules (remove seen place) prefix table placed
    (ap (λ (xs : List Rule). remove xs place) same ∙ ap (remove rules) at ∙ remove-there rules prefix placed other)
