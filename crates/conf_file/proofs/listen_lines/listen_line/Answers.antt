use Rattle.std.proofs.Common.{refl}
use Rattle.conf_file.specs.ShortLines.{SpellsListen}
use Rattle.conf_file.proofs.LineLemmas.{no_listen, one_listen, some_listen}
use Rattle.conf_file.proofs.OnlyLemmas.{only_bad, only_none, only_one, only_two}
use Rattle.conf_file.proofs.listen_lines.listen_line.Goals as goal

pub returns-in_default : goal.returns-in_default
returns-in_default c = only_none SpellsListen _ c.in_default.ensures.ended some_listen

pub returns-in_default-read_named : goal.returns-in_default-read_named
returns-in_default-read_named c =
    only_bad SpellsListen _ _ _ c.in-Some.ensures.word (no_listen c.in-Some.word.now c.in_default-read_named.ensures.only) some_listen

pub returns-in-Some-next : goal.returns-in-Some-next
returns-in-Some-next c =
    only_two SpellsListen _ _ _ _ _ _ c.in-Some.ensures.word c.in-Some-next.ensures.word
    (c.in-Some-read_named.addr, c.in-Some-read_named.ensures.fits, c.in-Some-read_named.ensures.found, refl)

pub returns-in-None : goal.returns-in-None
returns-in-None c =
    only_one SpellsListen _ _ _ _ c.in-Some.ensures.word c.in-None.ensures.ended
    (c.in-Some-read_named.addr, c.in-Some-read_named.ensures.fits, c.in-Some-read_named.ensures.found, refl)
    (one_listen c.in-Some.word.now c.in-Some-read_named.addr c.in-Some-read_named.ensures.only)
