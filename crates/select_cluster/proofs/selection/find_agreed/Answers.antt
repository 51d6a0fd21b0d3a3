use Rattle.std.proofs.Common.{◌-◌, length, sym, subst, refl}
use Rattle.std.specs.Int.{w128}
use Rattle.std.proofs.lemmas.Int.{to_z-of_z}
use Rattle.select_cluster.specs.Selecting.{IsGreatestAgreed, IsLeastAgreed}
use Rattle.select_cluster.proofs.Agreement.{greatest_found, least_found, none_found}
use Rattle.select_cluster.proofs.selection.find_agreed.Goals as goal

pub returns-in-None-clause-none : goal.returns-in-None-clause-none
returns-in-None-clause-none c =
    none_found c.args.candidates.now c.args.lows.now c.args.highs.now c.requires.low_ends c.requires.high_ends c.args.false_count c.requires.minority
    c.in-None.ensures.none

pub returns-in-Some-clause-found : goal.returns-in-Some-clause-found
returns-in-Some-clause-found c =
    let cs = c.args.candidates.now in
    let least = least_found cs c.args.lows.now c.args.highs.now c.requires.low_ends c.requires.high_ends c.args.false_count c.requires.minority
    c.in-Some.first c.in-Some.ensures.found c.lower.result c.lower.ensures.value in
    let greatest = greatest_found cs c.args.lows.now c.args.highs.now c.requires.low_ends c.requires.high_ends c.args.false_count c.requires.minority
    c.last_meeting-last.result c.last_meeting-last.ensures c.lower-in-Some.result c.lower-in-Some.ensures.value in
    let lo = to_z-of_z w128 c.lower.result c.lower.ensures.fits in
    let hi = to_z-of_z w128 c.lower-in-Some.result c.lower-in-Some.ensures.fits in
    (refl, subst (IsLeastAgreed cs (length cs - c.args.false_count)) (sym lo) least, subst (IsGreatestAgreed cs (length cs - c.args.false_count)) (sym hi) greatest)
