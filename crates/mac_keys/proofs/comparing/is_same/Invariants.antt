use Rattle.std.proofs.Common.{◌≡◌, ◌↔◌, take}
use Rattle.mac_keys.proofs.comparing.is_same.Given as goal

-- no difference is gathered so far exactly where the fronts are equal
abbrev pub invariant-loop-i : goal.invariant-loop-i
invariant-loop-i l = (l.differences ≡ 0) ↔ (take l.i l.given ≡ take l.i l.digest)
