use Rattle.std.proofs.Common.{arith, sym, ap, ◌∙◌}
use Rattle.std.proofs.lemmas.Int.{ints, to_z-of_z}
use Rattle.std.specs.Int.{w32}
use Rattle.discipline.specs.Frequency.{frequency_after}
use Rattle.discipline.proofs.FrequencyLemmas.{sum_held}
use Rattle.discipline.proofs.frequency.correct_frequency.Goals as goal

pub returns-in-Adjusted-clause-value : goal.returns-in-Adjusted-clause-value
returns-in-Adjusted-clause-value c =
    sum_held _ c.args.freq _ _ _ c.ranges.freq c.hold.ensures.value (c.from.ensures ∙ to_z-of_z w32 c.args.freq c.ranges.freq)
    c.find_adjusting_gain.ensures.value c.find_adjusting_gain.ensures.low c.find_adjusting_gain.ensures.high c.hold.ensures.bounded
    ∙ ap (λ e. frequency_after e c.args.freq c.args.offset.0 c.args.seconds c.args.poll) (sym c.in-Adjusted.is)

pub returns-in-Stepped-clause-value : goal.returns-in-Stepped-clause-value
returns-in-Stepped-clause-value c =
    sum_held _ c.args.freq _ _ _ c.ranges.freq c.hold-in-Stepped.ensures.value (c.from-in-Stepped.ensures ∙ to_z-of_z w32 c.args.freq c.ranges.freq)
    c.find_stepping_gain.ensures.value (omega (arith, ints, c.find_stepping_gain.ensures.low)) (omega (arith, ints, c.find_stepping_gain.ensures.high)) c.hold-in-Stepped.ensures.bounded
    ∙ ap (λ e. frequency_after e c.args.freq c.args.offset.0 c.args.seconds c.args.poll) (sym c.in-Stepped.is)
