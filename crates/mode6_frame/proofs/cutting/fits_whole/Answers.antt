use Rattle.std.proofs.Common.{arith}
use Rattle.mode6_frame.proofs.CutLemmas.{length-plain_text}
use Rattle.mode6_frame.proofs.cutting.fits_whole.Goals as goal

pub loop-i-init : goal.loop-i-init
loop-i-init c = (omega (arith, length-plain_text c.args.items.now), omega arith)
