use Rattle.std.proofs.Common.{◌≡◌, ◌<◌, ◌≤◌, ◌*◌, codes, length, take}
use Rattle.std.specs.List.{join_by}
use Rattle.sys_vars.specs.Texts.{measure_text}
use Rattle.sys_vars.specs.Variables.{IsPlainValue}
use Rattle.sys_vars.proofs.sample_text.measures.Given as goal

-- the stages before this one are written, each in so many octets at most
abbrev pub invariant-loop-place : goal.invariant-loop-place
invariant-loop-place l =
    (l.text.items ≡ join_by (measure_text l.measure) (codes " ") (take l.place l.stages))
    × (length l.text.items ≤ 29 * l.place)
    × (0 < l.place → (0 < length l.text.items) × IsPlainValue l.text.items)
