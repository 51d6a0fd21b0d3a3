use Rattle.std.proofs.Common.{arith}
use Rattle.mode6_frame.proofs.CutLemmas.{parts-read}
use Rattle.mode6_frame.proofs.cut_laws.answers_are_read_back.Goals as goal

pub returns : goal.returns
returns c = parts-read c.args.tag c.args.items.now (omega (arith, c.ranges.tag)) c.requires.writable c.requires.cuttable
