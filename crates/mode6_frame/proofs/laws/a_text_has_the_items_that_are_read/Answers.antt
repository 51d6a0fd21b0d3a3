use Rattle.mode6_frame.proofs.ReadingLemmas.{items_read_complete, items_read_sound}
use Rattle.mode6_frame.proofs.laws.a_text_has_the_items_that_are_read.Goals as goal

pub returns : goal.returns
returns c = (items_read_sound c.args.text.now c.args.items.now, items_read_complete c.args.text.now c.args.items.now)
