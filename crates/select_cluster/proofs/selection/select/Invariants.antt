use Rattle.std.proofs.Common.{ℕ, ℤ, ◌<◌}
use Rattle.select_cluster.specs.Selecting.{IsAccepted}
use Rattle.select_cluster.proofs.selection.select.Given as goal

abbrev pub invariant-loop-f : goal.invariant-loop-f
invariant-loop-f l = (g : ℕ) (lo hi : ℤ) → g < l.f → ¬ IsAccepted l.candidates g lo hi
