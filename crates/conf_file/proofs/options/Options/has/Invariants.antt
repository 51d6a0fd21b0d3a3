use Rattle.std.proofs.Common.{◌≡◌, drop, bytes_eq}
use Rattle.std.specs.List.{list_any}
use Rattle.conf_file.specs.OptionRules.{Given}
use Rattle.conf_file.proofs.options.Options.has.Given as goal

-- the rest decides
abbrev pub invariant-loop-place : goal.invariant-loop-place
invariant-loop-place l = list_any (λ (option : Given). bytes_eq l.name option.name) (drop l.place l.self) ≡ list_any (λ (option : Given). bytes_eq l.name option.name) l.self
