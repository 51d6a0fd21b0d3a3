use Rattle.std.proofs.Common.{◌≡◌, ◌+◌, drop, bytes_eq}
use Rattle.std.specs.List.{position_or_len}
use Rattle.mode6_frame.specs.declared.groups.Group.{Group}
use Rattle.mode6_frame.proofs.groups.place_of.Given as goal

-- the place among the rest decides
abbrev pub invariant-loop-place : goal.invariant-loop-place
invariant-loop-place l =
    l.place + position_or_len (λ (group : Group). bytes_eq group.tag l.tag) (drop l.place l.groups)
    ≡ position_or_len (λ (group : Group). bytes_eq group.tag l.tag) l.groups
