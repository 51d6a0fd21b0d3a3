use Rattle.std.proofs.Common.{◌*◌, ◌-◌, ◌^◌, ◌≤ℤ◌, FitsSigned, neg_ℤ, pos, rules, arith, sym, ap, subst, ◌∙◌}
use Rattle.std.specs.Int.{w64}
use Rattle.std.proofs.lemmas.Int.{to_z-of_z}
use Rattle.select_cluster.proofs.CombiningLemmas.{product_high, product_low, product_reads}
use Rattle.select_cluster.specs.Combining.{weight_of}
use Rattle.select_cluster.proofs.combining.weigh_offset.Goals as goal

pub returns-clause-value : goal.returns-clause-value
returns-clause-value c =
    let fits : FitsSigned w64 c.args.candidate.offset.0 = search rules in
    product_reads (weight_of c.args.candidate) c.args.candidate.offset.0 c.from.result c.from-2.result
    (omega (arith, c.weigh.ensures.value)) fits
    (c.from.ensures ∙ ap pos c.weigh.ensures.value) (c.from-2.ensures ∙ to_z-of_z w64 c.args.candidate.offset.0 fits)

pub returns-clause-low : goal.returns-clause-low
returns-clause-low c =
    let fits : FitsSigned w64 c.args.candidate.offset.0 = search rules in
    subst (λ z. neg_ℤ (pos (weight_of c.args.candidate * 2 ^ 63)) ≤ℤ z) (sym (returns-clause-value c)) (product_low (weight_of c.args.candidate) c.args.candidate.offset.0 fits)

pub returns-clause-high : goal.returns-clause-high
returns-clause-high c =
    let fits : FitsSigned w64 c.args.candidate.offset.0 = search rules in
    subst (λ z. z ≤ℤ pos (weight_of c.args.candidate * (2 ^ 63 - 1))) (sym (returns-clause-value c)) (product_high (weight_of c.args.candidate) c.args.candidate.offset.0 fits)
