use Rattle.std.proofs.Common.{take}
use Rattle.std.specs.List.{AllByRecursion}
use Rattle.list_telling.proofs.WidthLemmas.{HasWidths}
use Rattle.list_telling.proofs.laws.journals_are_tellable.Given as goal

abbrev pub invariant-loop-place : goal.invariant-loop-place
invariant-loop-place l = AllByRecursion HasWidths (take l.place l.journal)
