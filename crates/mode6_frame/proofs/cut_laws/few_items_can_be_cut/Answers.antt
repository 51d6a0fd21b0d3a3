use Rattle.mode6_frame.proofs.CutLemmas.{IsCuttable-few}
use Rattle.mode6_frame.proofs.cut_laws.few_items_can_be_cut.Goals as goal

pub returns : goal.returns
returns c = IsCuttable-few c.args.tag c.args.items.now c.requires.short c.requires.few
