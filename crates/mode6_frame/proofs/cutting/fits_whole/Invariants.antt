use Rattle.std.proofs.Common.{◌≡◌, ◌+◌, ◌≤◌, length, drop}
use Rattle.std.specs.List.{sum_by}
use Rattle.mode6_frame.specs.declared.message.TheConstants.{MAX_BODY}
use Rattle.mode6_frame.specs.Cuts.{width_of}
use Rattle.mode6_frame.specs.ItemTexts.{plain_text}
use Rattle.mode6_frame.proofs.cutting.fits_whole.Given as goal

abbrev pub invariant-loop-i : goal.invariant-loop-i
invariant-loop-i l =
    (l.used + sum_by width_of (drop l.i l.items) ≡ length (plain_text l.items)) × (l.used ≤ MAX_BODY)
