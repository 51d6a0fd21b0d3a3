use Rattle.std.proofs.Common.{◌≡◌, drop}
use Rattle.conf_file.specs.Options.{number_of}
use Rattle.conf_file.proofs.options.Options.number.Given as goal

-- the rest decides
abbrev pub invariant-loop-place : goal.invariant-loop-place
invariant-loop-place l = number_of (drop l.place l.self) l.name ≡ number_of l.self l.name
