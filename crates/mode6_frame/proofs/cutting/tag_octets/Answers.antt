use Rattle.std.proofs.Common.{rules}
use Rattle.mode6_frame.specs.Cuts.{tag_item}
use Rattle.mode6_frame.proofs.cutting.tag_octets.Goals as goal

pub returns-clause-tag : goal.returns-clause-tag
unfolding tag_item
returns-clause-tag c = search rules
