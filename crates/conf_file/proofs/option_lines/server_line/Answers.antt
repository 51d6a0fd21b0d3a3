use Rattle.std.proofs.Common.{ap, lit<}
use Rattle.conf_file.specs.OptionLines.{IsServerAt, IsServerTail, server_rules, server_with}
use Rattle.conf_file.specs.declared.lines.Line.TheVariants.{Server}
use Rattle.conf_file.proofs.LineLemmas.{no_server, server_leads, some_server}
use Rattle.conf_file.proofs.OptionLineLemmas.{given_by, refused_by, server_sound}
use Rattle.conf_file.proofs.ReadingLemmas.{read_after, read_bad, read_end}
use Rattle.conf_file.proofs.option_lines.server_line.Goals as goal

pub returns-in_default : goal.returns-in_default
returns-in_default c = read_end IsServerTail 2 _ c.in_default.ensures.ended (λ line none. none) some_server (lit< tt)

pub returns-in_default-read_text : goal.returns-in_default-read_text
returns-in_default-read_text c =
    read_bad IsServerTail 2 _ c.in-Some.word.now _ c.in-Some.ensures.word (no_server c.in-Some.word.now c.in_default-read_text.ensures.only) some_server (lit< tt)

pub read_options-requires-clause-sound : goal.read_options-requires-clause-sound
read_options-requires-clause-sound c = rw c.server_table.ensures server_sound

pub returns-in-Ok : goal.returns-in-Ok
returns-in-Ok c =
    read_after IsServerTail (IsServerAt c.in-Some-read_text.addr) 2 _ c.in-Some.word.now _ _ c.in-Some.ensures.word
    (server_leads c.in-Some.word.now c.in-Some-read_text.addr c.in-Some-read_text.ensures.fits c.in-Some-read_text.ensures.found c.in-Some-read_text.ensures.only)
    (given_by 0 c.server_table.result server_rules (λ given. Server (server_with c.in-Some-read_text.addr given)) 3 _ c.read_options.result c.in-Ok.given _ c.server_table.ensures c.in-Ok.is
    (ap Server c.server_of.ensures) c.read_options.ensures)

pub returns-in-Err : goal.returns-in-Err
returns-in-Err c =
    read_after IsServerTail (IsServerAt c.in-Some-read_text.addr) 2 _ c.in-Some.word.now _ _ c.in-Some.ensures.word
    (server_leads c.in-Some.word.now c.in-Some-read_text.addr c.in-Some-read_text.ensures.fits c.in-Some-read_text.ensures.found c.in-Some-read_text.ensures.only)
    (refused_by 0 c.server_table.result server_rules (λ given. Server (server_with c.in-Some-read_text.addr given)) 3 _ c.read_options.result c.in-Err.number c.server_table.ensures c.in-Err.is c.read_options.ensures)
