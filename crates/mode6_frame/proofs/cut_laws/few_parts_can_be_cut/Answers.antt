use Rattle.mode6_frame.proofs.CutLemmas.{IsCuttable-counted}
use Rattle.mode6_frame.proofs.cut_laws.few_parts_can_be_cut.Goals as goal

pub returns : goal.returns
returns c = IsCuttable-counted c.args.tag c.args.items.now c.requires.short c.requires.few
