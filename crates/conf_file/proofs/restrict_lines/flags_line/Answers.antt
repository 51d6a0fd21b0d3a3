use Rattle.conf_file.specs.RestrictOptions.{flag_rules, restricted_by}
use Rattle.conf_file.specs.declared.lines.Line.TheVariants.{Restrict}
use Rattle.conf_file.proofs.OptionLineLemmas.{flags_sound, refused_by}
use Rattle.conf_file.proofs.restrict_lines.flags_line.Goals as goal

pub read_options-requires-clause-sound : goal.read_options-requires-clause-sound
read_options-requires-clause-sound c = rw c.flag_table.ensures flags_sound

pub returns-in-Err : goal.returns-in-Err
returns-in-Err c =
    refused_by 0 c.flag_table.result flag_rules (λ given. Restrict (restricted_by c.args.first c.args.second given)) c.args.number c.args.words.now c.read_options.result c.in-Err.number c.flag_table.ensures c.in-Err.is
    c.read_options.ensures
