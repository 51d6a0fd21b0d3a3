use Rattle.std.proofs.Common.{sym, ◌∙◌}
use Rattle.conf_file.proofs.TakingLemmas.{line_reads}
use Rattle.conf_file.proofs.line_reader.read_line.Goals as goal

pub returns-in-Some-kind_in : goal.returns-in-Some-kind_in
returns-in-Some-kind_in c =
    line_reads _ c.in-Some.word.now _ c.in-Some-kind_in.kind c.read_tail.result (sym c.of-words.ensures ∙ c.in-Some.ensures.word) (sym c.in-Some-kind_in.ensures) c.read_tail.ensures
