use Rattle.drawn_link.specs.Links.{IsBegun}
use Rattle.drawn_link.proofs.begin.begin.Given as goal

-- the clients before this one have arrived
abbrev pub invariant-loop-number : goal.invariant-loop-number
invariant-loop-number l = IsBegun l.number l.book
