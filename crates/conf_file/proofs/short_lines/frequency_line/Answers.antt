use Rattle.std.proofs.Common.{refl}
use Rattle.conf_file.specs.ShortLines.{SpellsFrequency}
use Rattle.conf_file.proofs.ShortLineLemmas.{no_frequency, some_frequency}
use Rattle.conf_file.proofs.OnlyLemmas.{only_bad, only_none, only_two}
use Rattle.conf_file.proofs.short_lines.frequency_line.Goals as goal

pub returns-in_default : goal.returns-in_default
returns-in_default c = only_none SpellsFrequency _ c.in_default.ensures.ended some_frequency

pub returns-in_default-frequency_in : goal.returns-in_default-frequency_in
returns-in_default-frequency_in c =
    only_bad SpellsFrequency _ _ _ c.in-Some.ensures.word (no_frequency c.in-Some.word.now (λ number spelled. let read = c.in_default-frequency_in.ensures.only number spelled in cc)) some_frequency

pub returns-in-Some-next : goal.returns-in-Some-next
returns-in-Some-next c =
    only_two SpellsFrequency _ _ _ _ _ _ c.in-Some.ensures.word c.in-Some-next.ensures.word (c.in-Some-frequency_in.frequency, c.in-Some-frequency_in.ensures.found, refl)
