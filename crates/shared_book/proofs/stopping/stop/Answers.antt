use Rattle.std.proofs.Common.{inr, sym, ap, subst, ◌∙◌, Some}
use Rattle.server_core.specs.declared.step.StepFault.{StepFault}
use Rattle.server_core.specs.declared.step.StepFault.TheVariants.{Ended}
use Rattle.server_core.specs.declared.op.Op.TheVariants.{Stop as Stops}
use Rattle.shared_book.specs.Entries.{IsUnentered}
use Rattle.shared_book.proofs.EntryLemmas.{stop-entered, stop-refused}
use Rattle.shared_book.proofs.stopping.stop.Goals as goal

pub returns-in-Err-clause-stopped : goal.returns-in-Err-clause-stopped
returns-in-Err-clause-stopped g c = λ opening opened.
    let refused = c.in-Err.ensures.refused opening opened in
    let met = stop-refused opening c.args.seat.now c.args.asked c.in-Err.fault c.enter.new.seat refused in
    let same = c.stop_met.ensures met.0 met.1 in
    inr (subst (λ (fault : StepFault). IsUnentered opening c.args.seat.now (Stops c.args.asked) fault c.enter.new.seat) (met.1 ∙ ap Ended (sym same)) refused)

pub returns-in-Err-clause-stands : goal.returns-in-Err-clause-stands
returns-in-Err-clause-stands g c = λ opening opened.
    let met = stop-refused opening c.args.seat.now c.args.asked c.in-Err.fault c.enter.new.seat (c.in-Err.ensures.refused opening opened) in
    met.2 ∙ ap Some (sym (c.stop_met.ensures met.0 met.1))

pub returns-in-Ok-clause-stands : goal.returns-in-Ok-clause-stands
returns-in-Ok-clause-stands g c = λ opening opened.
    let entered = c.in-Ok.ensures.entered opening opened in
    stop-entered opening c.args.seat.now c.args.asked _ _ c.enter.new.seat entered
