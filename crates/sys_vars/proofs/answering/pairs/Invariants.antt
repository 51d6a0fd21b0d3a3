use Rattle.std.proofs.Common.{◌≡◌, ◌*◌, length, take}
use Rattle.std.specs.List.{flat_map}
use Rattle.sys_vars.specs.Answers.{status_pair}
use Rattle.sys_vars.proofs.answering.pairs.Given as goal

-- the peers before this one are told, each in four octets
abbrev pub invariant-loop-place : goal.invariant-loop-place
invariant-loop-place l =
    (l.octets ≡ flat_map status_pair (take l.place l.peers)) × (length l.octets ≡ 4 * l.place)
