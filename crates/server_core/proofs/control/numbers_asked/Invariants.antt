use Rattle.std.proofs.Common.{take}
use Rattle.server_core.specs.Control.{AreNumbersAsked}
use Rattle.server_core.proofs.control.numbers_asked.Given as goal

-- the items before this one have their numbers
abbrev pub invariant-loop-i : goal.invariant-loop-i
invariant-loop-i l = AreNumbersAsked l.assoc (take l.i l.items) l.numbers.items
