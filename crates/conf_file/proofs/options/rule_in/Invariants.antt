use Rattle.std.proofs.Common.{◌≡◌, drop}
use Rattle.conf_file.specs.Options.{rule_of}
use Rattle.conf_file.proofs.options.rule_in.Given as goal

-- the rest decides
abbrev pub invariant-loop-place : goal.invariant-loop-place
invariant-loop-place l = rule_of (drop l.place l.rules) l.name ≡ rule_of l.rules l.name
