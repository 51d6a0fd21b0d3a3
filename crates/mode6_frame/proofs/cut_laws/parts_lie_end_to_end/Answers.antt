use Rattle.mode6_frame.proofs.CutLemmas.{parts-lie, parts-short}
use Rattle.mode6_frame.proofs.cut_laws.parts_lie_end_to_end.Goals as goal

pub returns : goal.returns
returns c = record {
  lie = parts-lie c.args.tag c.args.items.now;
  short = parts-short c.args.tag c.args.items.now c.requires;
}
