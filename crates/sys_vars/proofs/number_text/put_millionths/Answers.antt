use Rattle.std.proofs.Common.{arith}
use Rattle.sys_vars.proofs.ValueLemmas.{millionths-word, on_ok}
use Rattle.sys_vars.proofs.number_text.put_millionths.Goals as goal

pub returns-clause-word : goal.returns-clause-word
returns-clause-word c = on_ok c.extend_from_slice-2.result _ (millionths-word c.args.millionths (omega (arith, c.ranges.millionths)))
