use Rattle.wheel.specs.Passing.{IsFirstOf}
use Rattle.wheel.proofs.due_times.find_first.Given as goal

abbrev pub invariant-loop-key : goal.invariant-loop-key
invariant-loop-key l = IsFirstOf l.due l.now l.key l.first
