use Rattle.std.proofs.Common.{sym, subst, ◌∙◌, refl, arith}
use Rattle.access_rules.proofs.EditLemmas.{IsRemoved, IsRemoved-cleared, IsRemoved-taken}
use Rattle.access_rules.proofs.RuleLemmas.{Ascend-from_pairs, flags_at-placed, flags_at-unplaced}
use Rattle.access_rules.proofs.rules.Rules.remove.Goals as goal
use Rattle.access_rules.proofs.rules.Rules.remove.Goals.{After-remove}

takes : (c : After-remove) → IsRemoved c.args.self.now c.args.prefix.now c.remove.new.self.items
takes c =
    subst (IsRemoved c.args.self.now c.args.prefix.now) (sym c.remove.ensures.items)
    (IsRemoved-taken c.args.self.now c.self.inside.rules.items c.args.prefix.now c.place-place.result c.place-place.ensures.table
    c.self.view_is c.place-place.ensures.place (sym c.has_at.ensures.placed ∙ c.if-not-has_at.false) (sym c.is_default.ensures ∙ c.if-is_default.false))

pub invariant_of-self : goal.invariant_of-self
invariant_of-self c = (
  (IsRemoved-cleared _ _ c.args.prefix.now _ _ c.place-place.ensures.table c.self.view_is c.place-place.ensures.place
      (sym c.has_at.ensures.placed ∙ c.if-not-has_at.false) (sym c.is_default.ensures ∙ c.if-is_default.true) c.index_mut.ensures.value).table,
  c.self.invariant.1,
)

pub returns-then-is_default-clause-removed : goal.returns-then-is_default-clause-removed
returns-then-is_default-clause-removed c =
    (IsRemoved-cleared _ _ _ _ _ c.place-place.ensures.table c.self.view_is c.place-place.ensures.place
    (sym c.has_at.ensures.placed ∙ c.if-not-has_at.false) (sym c.is_default.ensures ∙ c.if-is_default.true) c.index_mut.ensures.value).removed

pub returns-then-is_default-clause-at_each : goal.returns-then-is_default-clause-at_each
returns-then-is_default-clause-at_each c =
    (IsRemoved-cleared _ _ _ _ _ c.place-place.ensures.table c.self.view_is c.place-place.ensures.place
    (sym c.has_at.ensures.placed ∙ c.if-not-has_at.false) (sym c.is_default.ensures ∙ c.if-is_default.true) c.index_mut.ensures.value).at_each

pub returns-then-is_default-clause-not_there : goal.returns-then-is_default-clause-not_there
returns-then-is_default-clause-not_there c =
    (λ wrong. absurd (cc), λ none. absurd (flags_at-placed c.args.self.now c.args.prefix.now (sym c.has_at.ensures.placed ∙ c.if-not-has_at.false) none))

pub invariant_of-self-2 : goal.invariant_of-self-2
invariant_of-self-2 c = ((takes c).table, omega (arith, c.self.invariant.1, c.remove.ensures.capacity))

pub returns-clause-removed : goal.returns-clause-removed
returns-clause-removed c = (takes c).removed

pub returns-clause-at_each : goal.returns-clause-at_each
returns-clause-at_each c = (takes c).at_each

pub returns-clause-not_there : goal.returns-clause-not_there
returns-clause-not_there c =
    (λ wrong. absurd (cc), λ none. absurd (flags_at-placed c.args.self.now c.args.prefix.now (sym c.has_at.ensures.placed ∙ c.if-not-has_at.false) none))

pub returns-then-not-has_at-clause-not_there : goal.returns-then-not-has_at-clause-not_there
returns-then-not-has_at-clause-not_there c =
    (λ _. flags_at-unplaced c.args.self.now c.args.prefix.now (Ascend-from_pairs c.args.self.now c.place-place.ensures.table.ascending) (sym c.has_at.ensures.placed ∙ c.if-not-has_at.true), λ _. refl)
