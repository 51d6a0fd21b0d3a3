use Rattle.std.specs.List.{AllByRecursion}
use Rattle.drawn_link.specs.Arrivals.{IsAmidst}
use Rattle.drawn_link.proofs.arrivals.drawn_ops.Given as goal

-- nothing else was drawn so far
abbrev pub invariant-loop : goal.invariant-loop
invariant-loop l = AllByRecursion IsAmidst l.ops.items
