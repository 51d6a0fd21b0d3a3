use Rattle.std.proofs.Common.{◌≡◌, drop}
use Rattle.std.specs.List.{list_all}
use Rattle.mode6_frame.specs.Groups.{is_tag_digit}
use Rattle.mode6_frame.proofs.tags.are_tag_digits.Given as goal

-- the rest decides
abbrev pub invariant-loop-i : goal.invariant-loop-i
invariant-loop-i l = list_all is_tag_digit (drop l.i l.octets) ≡ list_all is_tag_digit l.octets
