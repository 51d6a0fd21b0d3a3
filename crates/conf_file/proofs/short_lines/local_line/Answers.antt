use Rattle.std.proofs.Common.{refl}
use Rattle.conf_file.specs.ShortLines.{SpellsLocal}
use Rattle.conf_file.proofs.ShortLineLemmas.{no_local, some_local}
use Rattle.conf_file.proofs.OnlyLemmas.{only_bad, only_none, only_two}
use Rattle.conf_file.proofs.short_lines.local_line.Goals as goal

pub returns-in_default : goal.returns-in_default
returns-in_default c = only_none SpellsLocal _ c.in_default.ensures.ended some_local

pub returns-in_default-read_decimal_within : goal.returns-in_default-read_decimal_within
returns-in_default-read_decimal_within c =
    only_bad SpellsLocal _ _ _ c.in-Some.ensures.word (no_local c.in-Some.word.now (λ number spelled. let read = c.in_default-read_decimal_within.ensures.only number spelled in cc)) some_local

pub returns-in-Some-next : goal.returns-in-Some-next
returns-in-Some-next c =
    only_two SpellsLocal _ _ _ _ _ _ c.in-Some.ensures.word c.in-Some-next.ensures.word (c.in-Some-read_decimal_within.stratum, c.in-Some-read_decimal_within.ensures.found, refl)
