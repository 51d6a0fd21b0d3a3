use Rattle.std.proofs.Common.{sym, refl, ◌∙◌}
use Rattle.conf_file.specs.ShortLines.{SpellsKeys}
use Rattle.conf_file.proofs.ShortLineLemmas.{no_keys, some_keys}
use Rattle.conf_file.proofs.OnlyLemmas.{only_bad, only_none, only_two}
use Rattle.conf_file.proofs.short_lines.keys_word.Goals as goal

pub returns-in_default-clause-refused : goal.returns-in_default-clause-refused
returns-in_default-clause-refused c = (only_none SpellsKeys _ c.in_default.ensures.ended some_keys).refused

pub returns-then-not-is_name-clause-refused : goal.returns-then-not-is_name-clause-refused
returns-then-not-is_name-clause-refused c =
    (only_bad SpellsKeys _ _ _ c.in-Some.ensures.word (no_keys c.in-Some.word.now (sym c.is_name.ensures ∙ c.if-not-is_name.true)) some_keys).refused

pub returns-in-Some-next-clause-refused : goal.returns-in-Some-next-clause-refused
returns-in-Some-next-clause-refused c =
    (only_two SpellsKeys _ _ _ _ _ _ c.in-Some.ensures.word c.in-Some-next.ensures.word (sym c.is_name.ensures ∙ c.if-not-is_name.false, refl)).refused
