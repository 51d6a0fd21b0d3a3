use Rattle.std.proofs.Common.{◌≡◌, ◌↔◌, sym, ap, ◌∙◌, subst}
use Rattle.discipline.specs.declared.feedback.Change.TheVariants.{Panic, Stepped, Adjusted, Ignored}
use Rattle.discipline.specs.Feedback.{IsRefused, IsStep, IsAdjustment, IsIgnored}
use Rattle.discipline.specs.SoftClock.{clock_time}
use Rattle.discipline.proofs.FeedbackLemmas.{panic_iff, stepped_iff, adjusted_iff, ignored_iff, adjusted_on_time, stepped_by}
use Rattle.discipline.proofs.feedback.Loop.update.Goals as goal

pub returns-clause-panic : goal.returns-clause-panic
returns-clause-panic c =
    subst (λ change. (change ≡ Panic) ↔ IsRefused c.args.self.now c.args.offset.0) (sym c.take.ensures.answer) (panic_iff c.args.self.now c.args.offset.0 c.args.now)

pub returns-clause-stepped : goal.returns-clause-stepped
returns-clause-stepped c =
    subst (λ change. (change ≡ Stepped) ↔ IsStep c.args.self.now c.args.offset.0 c.args.now) (sym c.take.ensures.answer) (stepped_iff c.args.self.now c.args.offset.0 c.args.now)

pub returns-clause-adjusted : goal.returns-clause-adjusted
returns-clause-adjusted c =
    subst (λ change. (change ≡ Adjusted) ↔ IsAdjustment c.args.self.now c.args.offset.0 c.args.now) (sym c.take.ensures.answer) (adjusted_iff c.args.self.now c.args.offset.0 c.args.now)

pub returns-clause-ignored : goal.returns-clause-ignored
returns-clause-ignored c =
    subst (λ change. (change ≡ Ignored) ↔ IsIgnored c.args.self.now c.args.offset.0 c.args.now) (sym c.take.ensures.answer) (ignored_iff c.args.self.now c.args.offset.0 c.args.now)

pub returns-clause-on_time : goal.returns-clause-on_time
returns-clause-on_time c = λ is.
    ap (λ new. clock_time new.clock c.args.now) c.take.ensures.value
    ∙ adjusted_on_time c.args.self.now c.args.offset.0 c.args.poll c.args.now (sym c.take.ensures.answer ∙ is)

pub returns-clause-set : goal.returns-clause-set
returns-clause-set c = λ is.
    ap (λ new. clock_time new.clock c.args.now) c.take.ensures.value
    ∙ stepped_by c.args.self.now c.args.offset.0 c.args.poll c.args.now (sym c.take.ensures.answer ∙ is)
