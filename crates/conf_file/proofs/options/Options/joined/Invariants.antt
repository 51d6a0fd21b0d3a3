use Rattle.std.proofs.Common.{◌≡◌, take}
use Rattle.conf_file.specs.RestrictOptions.{flags_of}
use Rattle.conf_file.proofs.options.Options.joined.Given as goal

-- the numbers so far are joined
abbrev pub invariant-loop-place : goal.invariant-loop-place
invariant-loop-place l = l.joined ≡ flags_of (take l.place l.self)
