use Rattle.std.proofs.Common.{◌≡◌}
use Rattle.std.specs.List.{range_with_len}
use Rattle.std.specs.Prelude.{map}
use Rattle.drawn_session.specs.Sessions.{reading_of}
use Rattle.drawn_session.proofs.opening.open_clock.Given as goal

-- the readings before this one are there
abbrev pub invariant-loop-number : goal.invariant-loop-number
invariant-loop-number l = l.list.items ≡ map reading_of (range_with_len 0 l.number)
