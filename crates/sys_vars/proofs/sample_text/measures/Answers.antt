use Rattle.std.proofs.Common.{ℕ, codes, take, ap, ◌∙◌, arith}
use Rattle.std.specs.List.{join_by}
use Rattle.std.proofs.lemmas.Grind.{common_steps}
use Rattle.sys_vars.specs.Texts.{measure_text}
use Rattle.sys_vars.proofs.ValueLemmas.{words-step}
use Rattle.sys_vars.proofs.sample_text.measures.Goals as goal

pub loop-place-preserved : goal.loop-place-preserved
loop-place-preserved c = (
  grind (arith, common_steps),
  omega (arith, c.in_ok-put_measure.ensures.longer, c.in_ok-extend_from_slice.ensures.len, c.gap.ensures.short, c.loop-place.invariant.1),
  λ some. words-step c.loop-place.place c.loop-place.text.items c.gap.result.now _ _ _
      (λ none. c.loop-place.invariant.0 ∙ ap (λ (i : ℕ). join_by (measure_text c.args.measure) (codes " ") (take i c.args.stages.now)) none) c.loop-place.invariant.2
      c.gap.ensures.value c.in_ok-extend_from_slice.ensures.items c.in_ok-put_measure.ensures.word c.in_ok-put_measure.ensures.value,
)
