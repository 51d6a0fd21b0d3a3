-- Places in lists of rules, and edits at them.
use Rattle.std.proofs.Common.{◌≡◌, ℕ, zero, suc, ◌<◌, ◌≤◌, nat_le, true, false, Bool, List, [], ◌∷◌, length, get_or, refl, sym, ap, subst, ◌∙◌, arith, bit_or, inl, inr, set}
use denote.Param.Members.{Mut}
use denote.Ref.{Bor}
use Rattle.std.specs.Fn.{Called, ComputesKey}
use Rattle.std.specs.List.{prefix_len, insert, remove}
use Rattle.std.specs.List.Sorted.{IsPartitionedBy, IsPartitionPoint}
use Rattle.std.proofs.lemmas.Bool.{cases_lt, leb-true, le-leb}
use Rattle.std.proofs.lemmas.List.Sums.{prefix_len_is}
use Rattle.std.proofs.lemmas.List.Sorted.{IsPartitionPoint-from_clause}
use Rattle.net_addr.specs.Addresses.{bits_of}
use Rattle.net_addr.specs.declared.addr.Ip.{Ip}
use Rattle.net_addr.specs.declared.prefix.Prefix.{Prefix}
use Rattle.access_rules.specs.declared.rules.Rule.{Rule}
use Rattle.access_rules.specs.Order.{prefix_before, same_prefix}
use Rattle.access_rules.specs.Places.{front_len, is_placed, place_of}
use Rattle.access_rules.specs.Rules.{IsRules, is_default, rules_with, rules_without}
use Rattle.access_rules.proofs.OrderLemmas.{before-bits, before-other, before-trans}
use Rattle.access_rules.proofs.RuleLemmas.{both_answers, either}

front_len-is : (test : Rule → Bool) (rules : List Rule) → front_len test rules ≡ prefix_len test rules
front_len-is test [] = refl
front_len-is test (rule ∷ rules) =
    either (test rule)
    (λ e. rw e (omega (arith, front_len-is test rules)))
    (λ e. rw e refl)

-- the front ends where a search by halving ends
front_len-point : (test : Rule → Bool) (rules : List Rule) (point : ℕ) → point ≤ length rules
    → IsPartitionPoint (λ rule. test rule ≡ true) (λ rule. test rule ≡ false) rules point → front_len test rules ≡ point
front_len-point test [] point within parts = omega arith
front_len-point test (rule ∷ rules) point within parts =
    front_len-is test (rule ∷ rules) ∙
    prefix_len_is test (rule ∷ rules) point rule within
    (λ k before. parts.0 k rule (omega arith) before)
    (λ here. parts.1 point rule (omega arith) here)

-- what `partition_point` answers is where the front ends
pub point-front_len : (test : Rule → Bool) {F : Type 0} {g : Mut F (Bor Rule × Unit {0}) Bool} {f : F} (rules seen : List Rule) (point : ℕ) → seen ≡ rules → point ≤ length seen
    → ((q : Rule → Bool) → ComputesKey g q f → IsPartitionedBy q seen → IsPartitionPoint (λ rule. q rule ≡ true) (λ rule. q rule ≡ false) seen point)
    → IsPartitionedBy test rules
    → ((a : Bor Rule × Unit {0}) (r : Bool) (f' : F) → Called g f a r f' → (r ≡ test a.0.now) × (f' ≡ f)) → point ≡ front_len test rules
point-front_len test rules seen point same bound parts front calls =
    let front_seen : IsPartitionedBy test seen = subst (IsPartitionedBy test) (sym same) front in
    sym (front_len-point test seen point bound (IsPartitionPoint-from_clause test seen point parts front_seen calls)) ∙ ap (front_len test) same

-- what is before a prefix stands in front
pub before_in_front : (rules : List Rule) (prefix : Prefix) → IsRules rules → IsPartitionedBy (λ (rule : Rule). prefix_before rule.prefix prefix) rules
before_in_front rules prefix table = λ i j d on within test.
    elim (cases_lt i j) as (λ _. prefix_before (get_or rules i d).prefix prefix ≡ true) [
      | inl before ↦ before-trans (get_or rules i d).prefix (get_or rules j d).prefix prefix (table.ascending i j d before within) test
      | inr no_lower ↦
          let same : j ≡ i = omega arith in
          let P : ℕ → Type 0 = λ n. prefix_before (get_or rules n d).prefix prefix ≡ true in
          subst P same test
    ]

-- the rules of earlier families stand in front
pub families_in_front : (rules : List Rule) (ip : Ip) → IsRules rules → IsPartitionedBy (λ (rule : Rule). nat_le (bits_of rule.prefix.ip) (bits_of ip)) rules
families_in_front rules ip table = λ i j d on within test.
    elim (cases_lt i j) as (λ _. nat_le (bits_of (get_or rules i d).prefix.ip) (bits_of ip) ≡ true) [
      | inl before ↦
          let up : bits_of (get_or rules i d).prefix.ip ≤ bits_of (get_or rules j d).prefix.ip = before-bits (get_or rules i d).prefix (get_or rules j d).prefix (table.ascending i j d before within) in
          let end : bits_of (get_or rules j d).prefix.ip ≤ bits_of ip = leb-true (bits_of (get_or rules j d).prefix.ip) (bits_of ip) test in
          le-leb (bits_of (get_or rules i d).prefix.ip) (bits_of ip) (omega arith)
      | inr no_lower ↦
          let same : j ≡ i = omega arith in
          let P : ℕ → Type 0 = λ n. nat_le (bits_of (get_or rules n d).prefix.ip) (bits_of ip) ≡ true in
          subst P same test
    ]

-- whether the rule at the place of a prefix has it
pub is_placed-at : (rules : List Rule) (prefix : Prefix) (d : Rule) → place_of rules prefix < length rules
    → is_placed rules prefix ≡ same_prefix (get_or rules (place_of rules prefix) d).prefix prefix
is_placed-at [] prefix d within = absurd (omega arith)
is_placed-at (rule ∷ rules) prefix d within =
    either (prefix_before rule.prefix prefix)
    (λ e.
    let further : suc (place_of rules prefix) < suc (length rules) = rw e at within in
    rw e (is_placed-at rules prefix d (omega arith)))
    (λ e. rw e refl)

-- where the rules end at the place of a prefix, no rule there has it
pub is_placed-end : (rules : List Rule) (prefix : Prefix) → length rules ≤ place_of rules prefix → is_placed rules prefix ≡ false
is_placed-end [] prefix ended = refl
is_placed-end (rule ∷ rules) prefix ended =
    either (prefix_before rule.prefix prefix)
    (λ e.
    let further : suc (length rules) ≤ suc (place_of rules prefix) = rw e at ended in
    rw e (is_placed-end rules prefix (omega arith)))
    (λ e.
    let nothing : suc (length rules) ≤ zero = rw e at ended in
    absurd (omega arith))

-- flags joined at the place of a prefix
pub set-joined : (rules : List Rule) (prefix : Prefix) (flags : ℕ) (d : Rule) → is_placed rules prefix ≡ true
    → set rules (place_of rules prefix) (record {
      prefix = (get_or rules (place_of rules prefix) d).prefix;
      flags = bit_or (get_or rules (place_of rules prefix) d).flags flags;
    }) ≡ rules_with rules prefix flags
set-joined [] prefix flags d placed = both_answers false placed refl
set-joined (rule ∷ rules) prefix flags d placed =
    either (prefix_before rule.prefix prefix)
    (λ e. rw e (ap (λ rest. rule ∷ rest) (set-joined rules prefix flags d (rw e at placed))))
    (λ e. let s : same_prefix rule.prefix prefix ≡ true = rw e at placed in rw (e, s) refl)

-- a rule put at the place of its prefix
pub insert-new : (rules : List Rule) (prefix : Prefix) (flags : ℕ) → is_placed rules prefix ≡ false
    → insert rules (place_of rules prefix) (record { prefix = prefix; flags = flags }) ≡ rules_with rules prefix flags
insert-new [] prefix flags placed = refl
insert-new (rule ∷ rules) prefix flags placed =
    either (prefix_before rule.prefix prefix)
    (λ e. rw e (ap (λ rest. rule ∷ rest) (insert-new rules prefix flags (rw e at placed))))
    (λ e. let s : same_prefix rule.prefix prefix ≡ false = rw e at placed in rw (e, s) refl)

-- the flags of a default taken at its place
pub set-cleared : (rules : List Rule) (prefix : Prefix) (d : Rule) → is_placed rules prefix ≡ true → is_default prefix ≡ true
    → set rules (place_of rules prefix) (record { prefix = (get_or rules (place_of rules prefix) d).prefix; flags = 0 }) ≡ rules_without rules prefix
set-cleared [] prefix d placed all = both_answers false placed refl
set-cleared (rule ∷ rules) prefix d placed all =
    either (prefix_before rule.prefix prefix)
    (λ e. rw (e, before-other rule.prefix prefix e) (ap (λ rest. rule ∷ rest) (set-cleared rules prefix d (rw e at placed) all)))
    (λ e. let s : same_prefix rule.prefix prefix ≡ true = rw e at placed in rw (e, s, all) refl)

-- a rule taken out at the place of its prefix
pub remove-there : (rules : List Rule) (prefix : Prefix) → is_placed rules prefix ≡ true → is_default prefix ≡ false
    → remove rules (place_of rules prefix) ≡ rules_without rules prefix
remove-there [] prefix placed all = both_answers false placed refl
remove-there (rule ∷ rules) prefix placed all =
    either (prefix_before rule.prefix prefix)
    (λ e. rw (e, before-other rule.prefix prefix e) (ap (λ rest. rule ∷ rest) (remove-there rules prefix (rw e at placed) all)))
    (λ e. let s : same_prefix rule.prefix prefix ≡ true = rw e at placed in rw (e, s, all) refl)

-- whether the rule that stands at the place of a prefix has it
pub is_placed-there : (rules seen : List Rule) (prefix : Prefix) (place : ℕ) (rule : Rule) → seen ≡ rules → place ≡ place_of rules prefix → place < length seen
    → rule ≡ get_or seen place rule → same_prefix rule.prefix prefix ≡ is_placed rules prefix
is_placed-there rules seen prefix place rule same at within here =
    let there : rule ≡ get_or rules (place_of rules prefix) rule = here ∙ ap (λ xs. get_or xs place rule) same ∙ ap (λ n. get_or rules n rule) at in
    ap (λ (r : Rule). same_prefix r.prefix prefix) there ∙ sym (is_placed-at rules prefix rule (omega (arith, ap (length {A = Rule}) same)))
