use Rattle.mode6_frame.proofs.CutLemmas.{parts-tagged}
use Rattle.mode6_frame.proofs.cut_laws.parts_share_a_tag.Goals as goal

pub returns : goal.returns
returns c = parts-tagged c.args.tag c.args.items.now c.requires.short c.requires.several
