use Rattle.std.proofs.Common.{◌<◌, ◌^◌, refl, arith}
use Rattle.access_rules.specs.declared.rules.Rule.{Rule}
use Rattle.list_telling.proofs.WidthLemmas.{all-at_end, one-more}
use Rattle.list_telling.proofs.laws.rules_have_flags.Goals as goal

pub loop-place-init : goal.loop-place-init
loop-place-init c = tt

pub loop-place-preserved : goal.loop-place-preserved
loop-place-preserved c =
    one-more (λ (rule : Rule). rule.flags < 2 ^ 16) c.args.rules.now c.loop-place.place _ c.get.result.now refl c.loop-place.invariant c.get.ensures.rule c.has_flags.ensures

pub returns : goal.returns
returns c = all-at_end (λ (rule : Rule). rule.flags < 2 ^ 16) c.args.rules.now c.loop-place.place (omega (arith, c.loop-place-test.false, c.loop-place.auto.place-end, c.len-place-end.ensures.len)) c.loop-place.invariant
