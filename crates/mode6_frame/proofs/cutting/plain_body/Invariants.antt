use Rattle.std.proofs.Common.{◌≡◌, ◌++◌, drop, codes}
use Rattle.mode6_frame.specs.Drafts.{spaced}
use Rattle.mode6_frame.specs.ItemTexts.{plain_text}
use Rattle.mode6_frame.proofs.cutting.plain_body.Given as goal

abbrev pub invariant-loop-i : goal.invariant-loop-i
invariant-loop-i l = (l.body ++ spaced (drop l.i l.items)) ++ codes "\r\n" ≡ plain_text l.items
