use Rattle.std.proofs.Common.{ap, ◌∙◌}
use Rattle.std.specs.Int.{w32, cast_signed, cast_unsigned}
use Rattle.discipline.specs.SoftClock.{clock_time}
use Rattle.discipline.proofs.SoftClockLemmas.{time_at_base, time_below}
use Rattle.discipline.proofs.feedback.Loop.tick.Goals as goal

pub returns-clause-on_time : goal.returns-clause-on_time
returns-clause-on_time c =
    let now = c.args.now in
    let slew = cast_signed w32 (cast_unsigned w32 c.find_slew.result) in
    let freq = cast_signed w32 (cast_unsigned w32 c.self.inside.clock.freq) in
    ap (λ clock. clock_time (record { base = clock.base; ntp = clock.ntp; freq = cast_signed w32 (cast_unsigned w32 clock.freq); slew = slew }) now) c.rebase.ensures
    ∙ time_at_base now (clock_time c.self.inside.clock now) freq slew (time_below c.self.inside.clock now)
    ∙ ap (λ old. clock_time old.clock now) c.self.view_is
