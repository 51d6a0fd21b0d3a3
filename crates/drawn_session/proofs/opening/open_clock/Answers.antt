use Rattle.std.proofs.Common.{◌≡◌, ◌∙◌, ap, arith}
use Rattle.std.specs.List.{range_with_len}
use Rattle.std.specs.Prelude.{map}
use Rattle.drawn_session.specs.Sessions.{reading_of}
use Rattle.drawn_session.specs.declared.opening.TheConstants.{READINGS}
use Rattle.drawn_session.proofs.DrawLemmas.{readings-all, readings-next}
use Rattle.drawn_session.proofs.opening.open_clock.Goals as goal

pub loop-number-preserved : goal.loop-number-preserved
loop-number-preserved c =
    readings-next c.loop-number.number c.loop-number.list.items c.push.new.self.items c.loop-number.invariant c.in_ok-push.ensures.items

pub returns-clause-readings : goal.returns-clause-readings
returns-clause-readings c =
    c.of.ensures.readings ∙ readings-all c.loop-number.list.items (c.loop-number.invariant ∙ ap (λ n. map reading_of (range_with_len 0 n)) last) where
      last : c.loop-number.number ≡ READINGS
      last = omega (arith, c.loop-number.auto.number-end, c.loop-number-test.false)
