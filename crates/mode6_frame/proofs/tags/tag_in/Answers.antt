use Rattle.std.proofs.Common.{refl, sym, ◌∙◌}
use Rattle.std.proofs.lemmas.List.{length-take-le}
use Rattle.mode6_frame.specs.Groups.{tag_of}
use Rattle.mode6_frame.proofs.tags.tag_in.Goals as goal

pub slice_bounds-result-end : goal.slice_bounds-result-end
slice_bounds-result-end c = sym (length-take-le 25 c.args.body.now (c.has_tag.ensures.long c.if-has_tag.true))

pub returns-then-has_tag : goal.returns-then-has_tag
unfolding tag_of
returns-then-has_tag c = rw (sym c.has_tag.ensures.tagged ∙ c.if-has_tag.true) refl

pub returns-else-has_tag : goal.returns-else-has_tag
unfolding tag_of
returns-else-has_tag c = rw (sym c.has_tag.ensures.tagged ∙ c.if-has_tag.false) refl
