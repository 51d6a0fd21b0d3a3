use Rattle.std.proofs.Common.{◌≢◌, length, sym, subst, ◌∙◌, refl, arith}
use Rattle.access_rules.proofs.EditLemmas.{IsAdded, IsAdded-inserted, IsAdded-joined}
use Rattle.access_rules.proofs.RuleLemmas.{Ascend-from_pairs, both_answers, flags_at-placed, flags_at-unplaced}
use Rattle.access_rules.proofs.rules.Rules.add.Goals as goal
use Rattle.access_rules.proofs.rules.Rules.add.Goals.{After-put_in}

pub invariant_of-self : goal.invariant_of-self
invariant_of-self c = (
  (IsAdded-joined _ _ c.args.prefix.now c.args.flags _ _ c.place-place.ensures.table c.self.view_is c.place-place.ensures.place
      (sym c.has_at.ensures.placed ∙ c.if-has_at.true) c.index_mut.ensures.value).table,
  c.self.invariant.1,
)

pub returns-then-has_at-clause-added : goal.returns-then-has_at-clause-added
returns-then-has_at-clause-added c =
    (IsAdded-joined _ _ _ _ _ _ c.place-place.ensures.table c.self.view_is c.place-place.ensures.place
    (sym c.has_at.ensures.placed ∙ c.if-has_at.true) c.index_mut.ensures.value).added

pub returns-then-has_at-clause-at_each : goal.returns-then-has_at-clause-at_each
returns-then-has_at-clause-at_each c =
    (IsAdded-joined _ _ _ _ _ _ c.place-place.ensures.table c.self.view_is c.place-place.ensures.place
    (sym c.has_at.ensures.placed ∙ c.if-has_at.true) c.index_mut.ensures.value).at_each

pub returns-then-has_at-clause-full : goal.returns-then-has_at-clause-full
returns-then-has_at-clause-full c =
    (λ wrong. absurd (cc), λ full. absurd (flags_at-placed c.args.self.now c.args.prefix.now (sym c.has_at.ensures.placed ∙ c.if-has_at.true) full.0))

pub returns-then-is_full-clause-full : goal.returns-then-is_full-clause-full
returns-then-is_full-clause-full c = (
  λ _. (
    flags_at-unplaced c.args.self.now c.args.prefix.now (Ascend-from_pairs c.args.self.now c.place-place.ensures.table.ascending)
        (sym c.has_at.ensures.placed ∙ c.if-has_at.false),
    c.is_full.ensures.0 c.if-is_full.true,
  ),
  λ _. refl,
)

inserts : (c : After-put_in) → IsAdded c.args.self.now c.args.prefix.now c.args.flags c.put_in.new.rules.items
inserts c =
    let not_full : length c.args.self.now ≢ 1024 = λ full. both_answers c.is_full.result (c.is_full.ensures.1 full) c.if-is_full.false in
    subst (IsAdded c.args.self.now c.args.prefix.now c.args.flags) (sym c.put_in.ensures.items)
    (IsAdded-inserted c.args.self.now c.self.inside.rules.items c.args.prefix.now c.args.flags c.place-place.result c.place-place.ensures.table
    c.self.view_is c.place-place.ensures.place (sym c.has_at.ensures.placed ∙ c.if-has_at.false) not_full)

pub invariant_of-self-2 : goal.invariant_of-self-2
invariant_of-self-2 c = ((inserts c).table, omega (arith, c.self.invariant.1, c.put_in.ensures.capacity))

pub returns-clause-added : goal.returns-clause-added
returns-clause-added c = (inserts c).added

pub returns-clause-at_each : goal.returns-clause-at_each
returns-clause-at_each c = (inserts c).at_each
