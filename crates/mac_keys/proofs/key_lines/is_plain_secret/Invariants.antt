use Rattle.std.proofs.Common.{◌≡◌, drop}
use Rattle.std.specs.List.{list_all}
use Rattle.mac_keys.specs.KeyLines.{is_plain_octet}
use Rattle.mac_keys.proofs.key_lines.is_plain_secret.Given as goal

-- the rest of the word decides
abbrev pub invariant-loop-octet : goal.invariant-loop-octet
invariant-loop-octet l = list_all is_plain_octet (drop l.octet-index l.word) ≡ list_all is_plain_octet l.word
