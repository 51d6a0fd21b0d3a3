use Rattle.planned_link.specs.Services.{AreServices, parts_of}
use Rattle.planned_link.proofs.serving.serve_times.Given as goal

-- the datagram was served as often as was counted
abbrev pub invariant-loop : goal.invariant-loop
invariant-loop l = AreServices l.counter (parts_of l.delivery) l.initial.book l.answers.items l.book
