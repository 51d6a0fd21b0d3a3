use Rattle.std.proofs.Common.{◌≡◌, drop}
use Rattle.mac_keys.specs.KeyLines.{begins}
use Rattle.mac_keys.proofs.key_types.is_begun.Given as goal

-- the rest of the word decides
abbrev pub invariant-loop-i : goal.invariant-loop-i
invariant-loop-i l = begins (drop l.i l.word) (drop l.i l.name) ≡ begins l.word l.name
