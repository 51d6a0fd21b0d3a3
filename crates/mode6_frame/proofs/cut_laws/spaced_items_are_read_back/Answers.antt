use Rattle.mode6_frame.proofs.WrittenLemmas.{IsItemText-joined}
use Rattle.mode6_frame.proofs.cut_laws.spaced_items_are_read_back.Goals as goal

pub returns : goal.returns
returns c = IsItemText-joined c.args.items.now c.requires.writable
