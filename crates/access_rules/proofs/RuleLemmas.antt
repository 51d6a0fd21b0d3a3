-- What becomes of a list of rules where one is added or removed.
use Rattle.std.proofs.Common.{◌≡◌, ◌≢◌, ℕ, zero, suc, ◌<◌, ◌≤◌, ◌==◌, ◌&&◌, ◌||◌, cond, true, false, Bool, List, [], ◌∷◌, length, get_or, Some, None, refl, sym, ap, subst, ◌∙◌, arith, IsTrue}
use Rattle.std.proofs.lemmas.Bool.Decides.{nat_tests}
use Rattle.std.specs.List.{AllPairs}
use Rattle.net_addr.specs.Addresses.{bits_of}
use Rattle.net_addr.specs.declared.prefix.Prefix.{Prefix}
use Rattle.access_rules.specs.declared.rules.Rule.{Rule}
use Rattle.access_rules.specs.Flags.{joined}
use Rattle.access_rules.specs.Order.{prefix_before, same_prefix}
use Rattle.access_rules.specs.Places.{is_placed}
use Rattle.access_rules.specs.Rules.{IsPlain, IsRules, flags_at, has_default, is_default, rules_with, rules_without}
use Rattle.access_rules.proofs.OrderLemmas.{before-apart, before-else, before-family, before-other, before-trans, same-alike, same-apart, same-length, same-refl}

-- a fact that a test's two answers give alike
pub either : {P : Type 0} (test : Bool) → (test ≡ true → P) → (test ≡ false → P) → P
either true on_true on_false = on_true refl
either false on_true on_false = on_false refl

-- a test has one answer
pub both_answers : {P : Type 0} (test : Bool) → test ≡ true → test ≡ false → P
both_answers test is_true is_false = absurd (cc)

-- each rule stands behind the prefix
abbrev pub AreBehind : Prefix → List Rule → Type 0
AreBehind prefix [] = Unit {0}
AreBehind prefix (rule ∷ rules) = (prefix_before prefix rule.prefix ≡ true) × AreBehind prefix rules

-- each rule stands before those that follow it
abbrev pub Ascend : List Rule → Type 0
Ascend [] = Unit {0}
Ascend (rule ∷ rules) = AreBehind rule.prefix rules × Ascend rules

behind_at : (prefix : Prefix) (rules : List Rule) → AreBehind prefix rules → (k : ℕ) (d : Rule) → k < length rules → prefix_before prefix (get_or rules k d).prefix ≡ true
behind_at prefix [] behind k d within = absurd (omega arith)
behind_at prefix (rule ∷ rules) behind zero d within = behind.0
behind_at prefix (rule ∷ rules) behind (suc k) d within = behind_at prefix rules behind.1 k d (omega arith)

behind_from : (prefix : Prefix) (rules : List Rule) → ((k : ℕ) (d : Rule) → k < length rules → prefix_before prefix (get_or rules k d).prefix ≡ true) → AreBehind prefix rules
behind_from prefix [] behind = tt
behind_from prefix (rule ∷ rules) behind = (behind zero rule (omega arith), behind_from prefix rules (λ k d within. behind (suc k) d (omega arith)))

-- rules in order, pair by pair
pub pairs_from_Ascend : (rules : List Rule) → Ascend rules → AllPairs (λ (one : Rule) (later : Rule). IsTrue (prefix_before one.prefix later.prefix)) rules
pairs_from_Ascend [] up i j d before within = absurd (omega arith)
pairs_from_Ascend (rule ∷ rules) up i zero d before within = absurd (omega arith)
pairs_from_Ascend (rule ∷ rules) up zero (suc j) d before within = behind_at rule.prefix rules up.0 j d (omega arith)
pairs_from_Ascend (rule ∷ rules) up (suc i) (suc j) d before within = pairs_from_Ascend rules up.1 i j d (omega arith) (omega arith)

pub Ascend-from_pairs : (rules : List Rule) → AllPairs (λ (one : Rule) (later : Rule). IsTrue (prefix_before one.prefix later.prefix)) rules → Ascend rules
Ascend-from_pairs [] pairs = tt
Ascend-from_pairs (rule ∷ rules) pairs = (
  behind_from rule.prefix rules (λ k d within. pairs zero (suc k) d (omega arith) (omega arith)),
  Ascend-from_pairs rules (λ i j d before within. pairs (suc i) (suc j) d (omega arith) (omega arith)),
)

behind_further : (prefix next : Prefix) (rules : List Rule) → prefix_before prefix next ≡ true → AreBehind next rules → AreBehind prefix rules
behind_further prefix next [] before behind = tt
behind_further prefix next (rule ∷ rules) before behind =
    (before-trans prefix next rule.prefix before behind.0, behind_further prefix next rules before behind.1)

-- ---- the order stays

behind_with : (prefix : Prefix) (rules : List Rule) (added : Prefix) (flags : ℕ) → AreBehind prefix rules → prefix_before prefix added ≡ true → AreBehind prefix (rules_with rules added flags)
behind_with prefix [] added flags behind before = (before, tt)
behind_with prefix (rule ∷ rules) added flags behind before =
    either (prefix_before rule.prefix added)
    (λ e. rw e (behind.0, behind_with prefix rules added flags behind.1 before))
    (λ e. either (same_prefix rule.prefix added)
    (λ s. rw (e, s) (behind.0, behind.1))
    (λ s. rw (e, s) (before, (behind.0, behind.1))))

pub Ascend-with : (rules : List Rule) (added : Prefix) (flags : ℕ) → Ascend rules → Ascend (rules_with rules added flags)
Ascend-with [] added flags up = (tt, tt)
Ascend-with (rule ∷ rules) added flags up =
    either (prefix_before rule.prefix added)
    (λ e. rw e (behind_with rule.prefix rules added flags up.0 e, Ascend-with rules added flags up.1))
    (λ e. either (same_prefix rule.prefix added)
    (λ s. rw (e, s) (up.0, up.1))
    (λ s.
    let before : prefix_before added rule.prefix ≡ true = before-else rule.prefix added e s in
    rw (e, s) ((before, behind_further added rule.prefix rules before up.0), (up.0, up.1))))

behind_without : (prefix : Prefix) (rules : List Rule) (removed : Prefix) → AreBehind prefix rules → AreBehind prefix (rules_without rules removed)
behind_without prefix [] removed behind = tt
behind_without prefix (rule ∷ rules) removed behind =
    either (same_prefix rule.prefix removed)
    (λ s. either (is_default removed) (λ z. rw (s, z) (behind.0, behind.1)) (λ z. rw (s, z) behind.1))
    (λ s. rw s (behind.0, behind_without prefix rules removed behind.1))

pub Ascend-without : (rules : List Rule) (removed : Prefix) → Ascend rules → Ascend (rules_without rules removed)
Ascend-without [] removed up = tt
Ascend-without (rule ∷ rules) removed up =
    either (same_prefix rule.prefix removed)
    (λ s. either (is_default removed) (λ z. rw (s, z) (up.0, up.1)) (λ z. rw (s, z) up.1))
    (λ s. rw s (behind_without rule.prefix rules removed up.0, Ascend-without rules removed up.1))

-- ---- the defaults stay

or_keeps : (first rest more : Bool) → (first || rest) ≡ true → (rest ≡ true → more ≡ true) → (first || more) ≡ true
or_keeps true rest more some keeps = refl
or_keeps false rest more some keeps = keeps some

or_later : (first rest : Bool) → rest ≡ true → (first || rest) ≡ true
or_later true rest later = refl
or_later false rest later = later

pub has_default-with : (bits : ℕ) (rules : List Rule) (added : Prefix) (flags : ℕ) → has_default bits rules ≡ true → has_default bits (rules_with rules added flags) ≡ true
has_default-with bits [] added flags there = both_answers false there refl
has_default-with bits (rule ∷ rules) added flags there =
    either (prefix_before rule.prefix added)
    (λ e. rw e (or_keeps ((bits_of rule.prefix.ip == bits) && is_default rule.prefix) (has_default bits rules) (has_default bits (rules_with rules added flags)) there
    (has_default-with bits rules added flags)))
    (λ e. either (same_prefix rule.prefix added)
    (λ s. rw (e, s) there)
    (λ s. rw (e, s) (or_later ((bits_of added.ip == bits) && is_default added) (has_default bits (rule ∷ rules)) there)))

passed_on : (one two rest : Bool) → two ≡ false → ((one && two) || rest) ≡ true → rest ≡ true
passed_on true two rest fails some = rw fails at some
passed_on false two rest fails some = some

pub has_default-without : (bits : ℕ) (rules : List Rule) (removed : Prefix) → has_default bits rules ≡ true → has_default bits (rules_without rules removed) ≡ true
has_default-without bits [] removed there = both_answers false there refl
has_default-without bits (rule ∷ rules) removed there =
    either (same_prefix rule.prefix removed)
    (λ s. either (is_default removed)
    (λ z. rw (s, z) there)
    (λ z.
    let other : is_default rule.prefix ≡ false = ap (λ n. n == 0) (same-length rule.prefix removed s) ∙ z in
    rw (s, z) (passed_on (bits_of rule.prefix.ip == bits) (is_default rule.prefix) (has_default bits rules) other there)))
    (λ s. rw s (or_keeps ((bits_of rule.prefix.ip == bits) && is_default rule.prefix) (has_default bits rules) (has_default bits (rules_without rules removed)) there
    (has_default-without bits rules removed)))

one_family : (n : ℕ) (t u : Bool) → (((n == 32) && t) || false) ≡ true → (((n == 128) && u) || false) ≡ true → ⊥
one_family n t u small large = grind (arith, nat_tests)

-- the defaults of both families are two rules
pub at_least_two : (rules : List Rule) → has_default 32 rules ≡ true → has_default 128 rules ≡ true → 2 ≤ length rules
at_least_two [] v4 v6 = both_answers false v4 refl
at_least_two (rule ∷ []) v4 v6 = absurd (one_family (bits_of rule.prefix.ip) (is_default rule.prefix) (is_default rule.prefix) v4 v6)
at_least_two (rule ∷ next ∷ rules) v4 v6 = omega arith

-- ---- how many there are

pub length-with_placed : (rules : List Rule) (added : Prefix) (flags : ℕ) → is_placed rules added ≡ true → length (rules_with rules added flags) ≡ length rules
length-with_placed [] added flags placed = both_answers false placed refl
length-with_placed (rule ∷ rules) added flags placed =
    either (prefix_before rule.prefix added)
    (λ e. rw e (ap suc (length-with_placed rules added flags (rw e at placed))))
    (λ e. let s : same_prefix rule.prefix added ≡ true = rw e at placed in rw (e, s) refl)

pub length-with_new : (rules : List Rule) (added : Prefix) (flags : ℕ) → is_placed rules added ≡ false → length (rules_with rules added flags) ≡ suc (length rules)
length-with_new [] added flags placed = refl
length-with_new (rule ∷ rules) added flags placed =
    either (prefix_before rule.prefix added)
    (λ e. rw e (ap suc (length-with_new rules added flags (rw e at placed))))
    (λ e. let s : same_prefix rule.prefix added ≡ false = rw e at placed in rw (e, s) refl)

pub length-without : (rules : List Rule) (removed : Prefix) → length (rules_without rules removed) ≤ length rules
length-without [] removed = omega arith
length-without (rule ∷ rules) removed =
    either (same_prefix rule.prefix removed)
    (λ s. either (is_default removed) (λ z. rw (s, z) (omega arith)) (λ z. rw (s, z) (omega arith)))
    (λ s. rw s (omega (arith, length-without rules removed)))

-- ---- the flags of each prefix

behind_none : (prefix other : Prefix) (rules : List Rule) → AreBehind prefix rules → same_prefix prefix other ≡ true → flags_at rules other ≡ None
behind_none prefix other [] behind same = refl
behind_none prefix other (rule ∷ rules) behind same =
    let apart : same_prefix rule.prefix other ≡ false = before-apart prefix rule.prefix other behind.0 same in
    rw apart (behind_none prefix other rules behind.1 same)

-- where the place of a prefix has another, no rule has it
pub flags_at-unplaced : (rules : List Rule) (prefix : Prefix) → Ascend rules → is_placed rules prefix ≡ false → flags_at rules prefix ≡ None
flags_at-unplaced [] prefix up placed = refl
flags_at-unplaced (rule ∷ rules) prefix up placed =
    either (prefix_before rule.prefix prefix)
    (λ e. rw (before-other rule.prefix prefix e) (flags_at-unplaced rules prefix up.1 (rw e at placed)))
    (λ e.
    let s : same_prefix rule.prefix prefix ≡ false = rw e at placed in
    rw s (none_after rule.prefix prefix rules (before-else rule.prefix prefix e s) up.0))
  where
    none_after : (next prefix : Prefix) (rules : List Rule) → prefix_before prefix next ≡ true → AreBehind next rules → flags_at rules prefix ≡ None
    none_after next prefix rules before behind =
        behind_none prefix prefix rules (behind_further prefix next rules before behind) (same-refl prefix)

-- where the place of a prefix has it, a rule has it
pub flags_at-placed : (rules : List Rule) (prefix : Prefix) → is_placed rules prefix ≡ true → flags_at rules prefix ≢ None
flags_at-placed [] prefix placed = both_answers false placed refl
flags_at-placed (rule ∷ rules) prefix placed =
    either (prefix_before rule.prefix prefix)
    (λ e. rw (before-other rule.prefix prefix e) (flags_at-placed rules prefix (rw e at placed)))
    (λ e.
    let s : same_prefix rule.prefix prefix ≡ true = rw e at placed in
    rw s (λ none. absurd (some_none rule.flags none)))
  where
    some_none : (flags : ℕ) → Some flags ≡ None → ⊥
    some_none flags same = cc

-- the flags of each prefix where flags are joined to those of one
pub flags_at-with : (rules : List Rule) (added : Prefix) (flags : ℕ) (other : Prefix) → Ascend rules
    → flags_at (rules_with rules added flags) other ≡ cond (same_prefix added other) (Some (joined (flags_at rules other) flags)) (flags_at rules other)
flags_at-with [] added flags other up =
    either (same_prefix added other) (λ t. rw t refl) (λ t. rw t refl)
flags_at-with (rule ∷ rules) added flags other up =
    either (prefix_before rule.prefix added)
    (λ e. either (same_prefix rule.prefix other)
    (λ u. rw (e, u, before-apart rule.prefix added other e u) refl)
    (λ u. rw (e, u) (flags_at-with rules added flags other up.1)))
    (λ e. either (same_prefix rule.prefix added)
    (λ s.
    let alike : same_prefix rule.prefix other ≡ same_prefix added other = same-alike rule.prefix added other s in
    either (same_prefix added other)
    (λ t. let u : same_prefix rule.prefix other ≡ true = alike ∙ t in rw (e, s, u, t) refl)
    (λ t. let u : same_prefix rule.prefix other ≡ false = alike ∙ t in rw (e, s, u, t) refl))
    (λ s.
    let before : prefix_before added rule.prefix ≡ true = before-else rule.prefix added e s in
    either (same_prefix added other)
    (λ t.
    let u : same_prefix rule.prefix other ≡ false = before-apart added rule.prefix other before t in
    let none : flags_at rules other ≡ None = behind_none added other rules (behind_further added rule.prefix rules before up.0) t in
    rw (e, s, t, u, none) refl)
    (λ t. rw (e, s, t) refl)))

-- the flags of each prefix where a rule is removed
pub flags_at-without : (rules : List Rule) (removed other : Prefix) → Ascend rules → flags_at rules removed ≢ None
    → flags_at (rules_without rules removed) other ≡ cond (same_prefix removed other) (cond (is_default removed) (Some 0) None) (flags_at rules other)
flags_at-without [] removed other up there = absurd (there refl)
flags_at-without (rule ∷ rules) removed other up there =
    either (same_prefix rule.prefix removed)
    (λ s.
    let alike : same_prefix rule.prefix other ≡ same_prefix removed other = same-alike rule.prefix removed other s in
    either (same_prefix removed other)
    (λ t.
    let u : same_prefix rule.prefix other ≡ true = alike ∙ t in
    either (is_default removed)
    (λ z. rw (s, z, t, u) refl)
    (λ z.
    let none : flags_at rules other ≡ None = behind_none rule.prefix other rules up.0 u in
    rw (s, z, t, none) refl))
    (λ t.
    let u : same_prefix rule.prefix other ≡ false = alike ∙ t in
    either (is_default removed) (λ z. rw (s, z, t, u) refl) (λ z. rw (s, z, t, u) refl)))
    (λ s. either (same_prefix rule.prefix other)
    (λ u. rw (s, u, same-apart rule.prefix removed other s u) refl)
    (λ u. rw (s, u) (flags_at-without rules removed other up.1 (rw s at there))))

-- ---- the whole

pub IsRules-with : (rules : List Rule) (added : Prefix) (flags : ℕ) → IsRules rules → length (rules_with rules added flags) ≤ 1024 → IsRules (rules_with rules added flags)
IsRules-with rules added flags table room = record {
  room = room;
  ascending = pairs_from_Ascend (rules_with rules added flags) (Ascend-with rules added flags (Ascend-from_pairs rules table.ascending));
  default_v4 = has_default-with 32 rules added flags table.default_v4;
  default_v6 = has_default-with 128 rules added flags table.default_v6;
}

pub IsRules-without : (rules : List Rule) (removed : Prefix) → IsRules rules → IsRules (rules_without rules removed)
IsRules-without rules removed table = record {
  room = omega (arith, length-without rules removed, table.room);
  ascending = pairs_from_Ascend (rules_without rules removed) (Ascend-without rules removed (Ascend-from_pairs rules table.ascending));
  default_v4 = has_default-without 32 rules removed table.default_v4;
  default_v6 = has_default-without 128 rules removed table.default_v6;
}

default_here : (bits n length : ℕ) (rest : Bool) → n ≡ bits → length ≡ 0 → (((n == bits) && (length == 0)) || rest) ≡ true
default_here bits n length rest family all = grind (arith, nat_tests)

two_without_flags : (v4 v6 : Rule) → v4.flags ≡ 0 → v6.flags ≡ 0 → (k : ℕ) (d : Rule) → k < 2 → (get_or (v4 ∷ v6 ∷ []) k d).flags ≡ 0
two_without_flags v4 v6 none_v4 none_v6 zero d within = none_v4
two_without_flags v4 v6 none_v4 none_v6 (suc zero) d within = none_v6
two_without_flags v4 v6 none_v4 none_v6 (suc (suc k)) d within = absurd (omega arith)

-- the defaults of both families, without flags, are plain rules
pub IsPlain-two : (rules : List Rule) (v4 v6 : Rule) → rules ≡ v4 ∷ v6 ∷ [] → bits_of v4.prefix.ip ≡ 32 → bits_of v6.prefix.ip ≡ 128
    → v4.prefix.length ≡ 0 → v6.prefix.length ≡ 0 → v4.flags ≡ 0 → v6.flags ≡ 0 → IsPlain rules
IsPlain-two rules v4 v6 same family_v4 family_v6 all_v4 all_v6 none_v4 none_v6 = subst IsPlain (sym same) (record {
  table = record {
    room = omega arith;
    ascending = pairs_from_Ascend (v4 ∷ v6 ∷ []) ((before-family v4.prefix v6.prefix (omega arith), tt), (tt, tt));
    default_v4 = default_here 32 (bits_of v4.prefix.ip) v4.prefix.length _ family_v4 all_v4;
    default_v6 = or_later _ _ (default_here 128 (bits_of v6.prefix.ip) v6.prefix.length _ family_v6 all_v6);
  };
  two = refl;
  no_flags = λ k d within. two_without_flags v4 v6 none_v4 none_v6 k d within;
})
