use Rattle.std.proofs.Common.{◌+◌, ◌*◌, ◌^◌, ◌≤ℤ◌, FitsSigned, min, neg_ℤ, pos, rules, arith, sym, ap, ◌∙◌, subst}
use Rattle.std.specs.Int.{w64}
use Rattle.std.proofs.lemmas.Int.{to_z-of_z}
use Rattle.discipline.proofs.FrequencyLemmas.{gain_low, gain_high, gain_reads}
use Rattle.discipline.proofs.frequency.find_adjusting_gain.Goals as goal

pub returns-clause-value : goal.returns-clause-value
returns-clause-value c =
    let fits : FitsSigned w64 c.args.offset.0 = search rules in
    let interval = c.min-interval.ensures ∙ ap (λ t. min t c.power.result) c.from.ensures ∙ ap (min c.args.seconds) c.power.ensures.value in
    let divisor = c.power-2.ensures.value in
    gain_reads c.args.offset.0 c.from-2.result c.from-3.result c.from-4.result (min c.args.seconds (2 ^ c.args.poll)) (2 ^ (12 + 2 * c.args.poll))
    fits (omega arith) (omega arith) (omega arith)
    (c.from-2.ensures ∙ to_z-of_z w64 c.args.offset.0 fits) (c.from-3.ensures ∙ ap pos interval) (c.from-4.ensures ∙ ap pos divisor)

pub returns-clause-low : goal.returns-clause-low
returns-clause-low c =
    let fits : FitsSigned w64 c.args.offset.0 = search rules in
    subst (λ z. neg_ℤ (pos (2 ^ 95)) ≤ℤ z) (sym (returns-clause-value c)) (gain_low c.args.offset.0 c.args.seconds c.args.poll fits c.ranges.seconds.fits)

pub returns-clause-high : goal.returns-clause-high
returns-clause-high c =
    let fits : FitsSigned w64 c.args.offset.0 = search rules in
    subst (λ z. z ≤ℤ pos (2 ^ 95)) (sym (returns-clause-value c)) (gain_high c.args.offset.0 c.args.seconds c.args.poll fits c.ranges.seconds.fits)
