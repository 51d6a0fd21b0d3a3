use Rattle.std.proofs.Common.{arith}
use Rattle.mode6_frame.proofs.TagLemmas.{tag_text-injective}
use Rattle.mode6_frame.proofs.cut_laws.tags_are_told_apart.Goals as goal

pub returns : goal.returns
returns c = tag_text-injective c.args.tag c.args.other (omega (arith, c.ranges.tag)) (omega (arith, c.ranges.other)) c.requires
