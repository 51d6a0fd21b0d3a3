use Rattle.std.proofs.Common.{Some, sym, ap, ◌∙◌}
use Rattle.std.proofs.lemmas.Slice.Eq.{bytes_eq-Decides}
use Rattle.sys_vars.proofs.NameLemmas.{text_at, not_found, not_found-more}
use Rattle.sys_vars.proofs.names.place_of.Goals as goal

pub returns-then-eq : goal.returns-then-eq
returns-then-eq c =
    text_at _ _ _ c.loop-place-test.true ∙ ap Some (sym c.as_bytes.ensures.value ∙ (bytes_eq-Decides _ _).0 (sym c.eq.ensures ∙ c.if-eq.true))

pub loop-place-preserved : goal.loop-place-preserved
loop-place-preserved c =
    not_found-more _ _ _ _ c.loop-place.invariant
    (text_at _ _ _ c.loop-place-test.true ∙ ap Some (sym c.as_bytes.ensures.value))
    (sym c.eq.ensures ∙ c.if-eq.false)

pub returns : goal.returns
returns c = not_found _ _ _ c.loop-place.invariant c.loop-place-test.false
