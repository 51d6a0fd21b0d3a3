use Rattle.std.proofs.Common.{refl}
use Rattle.conf_file.specs.OptionLines.{limit_rules, rate_with}
use Rattle.conf_file.specs.declared.lines.Line.TheVariants.{Limit}
use Rattle.conf_file.proofs.OptionLineLemmas.{given_by, limit_sound, refused_by}
use Rattle.conf_file.proofs.option_lines.limit_line.Goals as goal

pub read_options-requires-clause-sound : goal.read_options-requires-clause-sound
read_options-requires-clause-sound c = rw c.limit_table.ensures limit_sound

pub returns-in-Err : goal.returns-in-Err
returns-in-Err c =
    refused_by 1 c.limit_table.result limit_rules (λ given. Limit (rate_with given)) 2 c.args.words.now c.read_options.result c.in-Err.number c.limit_table.ensures c.in-Err.is c.read_options.ensures

pub returns-in-Ok : goal.returns-in-Ok
returns-in-Ok c =
    given_by 1 c.limit_table.result limit_rules (λ given. Limit (rate_with given)) 2 c.args.words.now c.read_options.result c.in-Ok.given _ c.limit_table.ensures c.in-Ok.is
    (rw (c.number.ensures, c.number-in-Ok.ensures, c.number-in-Ok-2.ensures) refl) c.read_options.ensures
