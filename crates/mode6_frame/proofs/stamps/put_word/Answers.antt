use Rattle.std.proofs.Common.{arith}
use Rattle.hex.proofs.HexLemmas.{length-encode_with}
use Rattle.mode6_frame.proofs.stamps.put_word.Goals as goal

pub returns-clause-longer : goal.returns-clause-longer
returns-clause-longer c = grind (arith, length-encode_with)
