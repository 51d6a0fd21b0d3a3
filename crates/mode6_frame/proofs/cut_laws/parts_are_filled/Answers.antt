use Rattle.std.proofs.Common.{arith}
use Rattle.mode6_frame.specs.Cuts.{TAG_ITEM_LEN}
use Rattle.mode6_frame.proofs.CutLemmas.{runs-joined, runs-greedy}
use Rattle.mode6_frame.proofs.cut_laws.parts_are_filled.Goals as goal

pub returns : goal.returns
returns c = record {
  joined = runs-joined TAG_ITEM_LEN c.args.items.now;
  greedy = runs-greedy TAG_ITEM_LEN c.args.items.now (omega arith) c.requires;
}
