use Rattle.mode6_frame.proofs.StampLemmas.{stamp_in-text}
use Rattle.mode6_frame.proofs.stamps.written_stamps_are_read_back.Goals as goal

pub returns : goal.returns
returns c = stamp_in-text c.args.time c.ranges.time.fits
