use Rattle.drawn_link.specs.Services.{AreServices}
use Rattle.drawn_link.proofs.serving.serve.Given as goal

-- the datagram was served so far
abbrev pub invariant-loop : goal.invariant-loop
invariant-loop l = AreServices l.visit.common.now l.visit.from l.visit.octets.now l.initial.book l.services.items l.book
