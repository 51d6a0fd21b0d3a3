use Rattle.std.proofs.Common.{ap, sym, ◌∙◌}
use Rattle.mode6_frame.specs.Cuts.{parts_count}
use Rattle.mode6_frame.proofs.CutLemmas.{parts-counted}
use Rattle.mode6_frame.proofs.cut_laws.lengths_tell_the_number_of_parts.Goals as goal

pub returns : goal.returns
returns c =
    parts-counted c.args.tag c.args.items.now ∙ ap parts_count c.requires ∙ sym (parts-counted c.args.other c.args.others.now)
