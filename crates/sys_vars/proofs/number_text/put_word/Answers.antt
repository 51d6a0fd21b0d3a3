use Rattle.std.proofs.Common.{arith}
use Rattle.hex.proofs.HexLemmas.{length-encode_with}
use Rattle.sys_vars.proofs.number_text.put_word.Goals as goal

pub returns-clause-longer : goal.returns-clause-longer
returns-clause-longer c = grind (arith, length-encode_with)
