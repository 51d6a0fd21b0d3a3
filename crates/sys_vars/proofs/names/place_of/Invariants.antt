use Rattle.std.proofs.Common.{◌≢◌, ◌<◌, ℕ, Some}
use Rattle.std.specs.Prelude.{slice_get}
use Rattle.sys_vars.specs.Names.{texts_of}
use Rattle.sys_vars.proofs.names.place_of.Given as goal

-- the name stands at no place before this one
abbrev pub invariant-loop-place : goal.invariant-loop-place
invariant-loop-place l = (other : ℕ) → other < l.place → slice_get (texts_of l.names) other ≢ Some l.name
