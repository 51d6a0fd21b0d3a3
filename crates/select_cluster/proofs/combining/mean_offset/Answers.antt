use Rattle.std.proofs.Common.{◌≡◌, pos, ◌*◌, ◌-◌, ◌^◌, ◌≤ℤ◌, FitsSigned, neg_ℤ, sym, ap, subst, ◌∙◌}
use Rattle.std.specs.Prelude.{int_div}
use Rattle.std.specs.Int.{w64, w128, cast_signed, cast_unsigned}
use Rattle.std.proofs.lemmas.Int.{to_z-of_z}
use Rattle.select_cluster.specs.Combining.{weighted}
use Rattle.select_cluster.proofs.CombiningLemmas.{mean_fits, mean_reads}
use Rattle.select_cluster.proofs.combining.mean_offset.Goals as goal

quotient : (c : goal.After-from) → cast_signed w128 (cast_unsigned w128 (int_div (cast_signed w128 (cast_unsigned w128 c.sum_offsets.result)) (cast_signed w128 (cast_unsigned w128 c.from.result)))) ≡ int_div c.sum_offsets.result (pos c.sum_weights.result)
quotient c =
    mean_reads c.sum_offsets.result c.sum_weights.result c.from.result c.sum_offsets.ensures.fits c.sum_weights.ensures.most
    (c.sum_weights.ensures.some c.requires.some) c.from.ensures

quotient_fits : (c : goal.After-from) → FitsSigned w64 (int_div c.sum_offsets.result (pos c.sum_weights.result))
quotient_fits c =
    let weights = sym c.sum_weights.ensures.value in
    mean_fits c.sum_offsets.result c.sum_weights.result (c.sum_weights.ensures.some c.requires.some)
    (subst (λ w. neg_ℤ (pos (w * 2 ^ 63)) ≤ℤ c.sum_offsets.result) weights c.sum_offsets.ensures.low)
    (subst (λ w. c.sum_offsets.result ≤ℤ pos (w * (2 ^ 63 - 1))) weights c.sum_offsets.ensures.high)

pub overflow_cast-result : goal.overflow_cast-result
overflow_cast-result c = subst (FitsSigned w64) (sym (quotient c)) (quotient_fits c)

pub returns : goal.returns
returns c =
    ap (λ z. cast_signed w64 (cast_unsigned w64 z)) (quotient c)
    ∙ to_z-of_z w64 (int_div c.sum_offsets.result (pos c.sum_weights.result)) (quotient_fits c)
    ∙ ap (λ z. int_div z (pos c.sum_weights.result)) c.sum_offsets.ensures.value
    ∙ ap (λ w. int_div (weighted c.args.candidates.now) (pos w)) c.sum_weights.ensures.value
