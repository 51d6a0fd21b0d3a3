use Rattle.std.proofs.Common.{rules, ◌≡◌, ◌∙◌, ◌++◌, ap}
use Rattle.mode6_frame.specs.Frames.{parts_of, spelled_frame}
use Rattle.mode6_frame.specs.Places.{frame_at}
use Rattle.mode6_frame.proofs.FrameLemmas.{frame_at-padded}
use Rattle.mode6_frame.proofs.writing.write.Goals as goal

pub returns-clause-places : goal.returns-clause-places
returns-clause-places c rest =
    let spelled : c.put-2.new.self ≡ spelled_frame (parts_of c.args.frame.now) = search rules in
    ap (λ octets. frame_at (octets ++ rest)) spelled
    ∙ frame_at-padded (parts_of c.args.frame.now) rest c.head_octets-octets.ensures.fits
