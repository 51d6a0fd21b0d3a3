use Rattle.std.proofs.Common.{refl, sym, ◌∙◌}
use Rattle.std.proofs.lemmas.List.{take_rest}
use Rattle.mode6_frame.specs.Groups.{untagged}
use Rattle.mode6_frame.proofs.tags.untagged_in.Goals as goal

pub returns-then-has_tag : goal.returns-then-has_tag
unfolding untagged
returns-then-has_tag c = rw (sym c.has_tag.ensures.tagged ∙ c.if-has_tag.true) (take_rest c.args.body.now 25)

pub returns-else-has_tag : goal.returns-else-has_tag
unfolding untagged
returns-else-has_tag c = rw (sym c.has_tag.ensures.tagged ∙ c.if-has_tag.false) refl
