use Rattle.std.proofs.Common.{◌≡◌, [], codes, take}
use Rattle.mru_items.specs.Names.{values_of}
use Rattle.server_core.proofs.read_asked.nonce_in.Given as goal

-- no item before this one is a nonce
abbrev pub invariant-loop-i : goal.invariant-loop-i
invariant-loop-i l = values_of (codes "nonce") (take l.i l.items) ≡ []
