use Rattle.std.proofs.Common.{◌≡◌, ◌++◌, take}
use Rattle.planned_link.specs.Services.{queued_as}
use Rattle.planned_link.proofs.answering.append.Given as goal

-- the datagrams before this one were appended
abbrev pub invariant-loop-i : goal.invariant-loop-i
invariant-loop-i l = l.answers.items ≡ l.initial.answers.items ++ queued_as l.from l.place (take l.i l.grams)
