use Rattle.std.proofs.Common.{length, ap, sym, ◌∙◌, arith}
use Rattle.access_rules.specs.declared.rules.Rule.{Rule}
use Rattle.access_rules.proofs.PlaceLemmas.{is_placed-end, is_placed-there}
use Rattle.access_rules.proofs.rules.Rules.has_at.Goals as goal

pub returns-then-place-len-clause-placed : goal.returns-then-place-len-clause-placed
returns-then-place-len-clause-placed c =
    sym (is_placed-end c.args.self.now c.args.prefix.now (omega (arith, c.requires, ap (length {A = Rule}) c.self.view_is)))

pub returns-clause-placed : goal.returns-clause-placed
returns-clause-placed c =
    c.is_same.ensures ∙
    is_placed-there c.args.self.now c.self.inside.rules.items c.args.prefix.now c.args.place c.index.result.now c.self.view_is c.requires (omega arith) c.index.ensures
