use Rattle.std.proofs.Common.{◌∙◌, ℕ, List, [], ◌∷◌, ap, refl, sym}
use Rattle.edge_traits.specs.Told.{gained}
use Rattle.edge_traits.specs.declared.port.Event.TheVariants.{Took}
use Rattle.pilot.proofs.TurnLemmas.{Receives-datagram, Receives-failed, Receives-quiet}
use Rattle.pilot.proofs.helm.Helm.receive.Goals as goal

pub returns-in-Ok-Datagram-clause-receives : goal.returns-in-Ok-Datagram-clause-receives
returns-in-Ok-Datagram-clause-receives g c = λ opening is.
    let took = rw c.in-Ok-Datagram.field-0-is at c.in-Ok-Datagram.ensures in
    Receives-datagram opening c.args.keys.now c.args.basis.now c.args.who c.now-at.result c.in-Ok-Datagram.from c.as_slice-bytes.result.now c.take_in.result c.end_by.result _ c.args.self.now _ c.take_in.new.self c.args.seat.now c.take_in.new.seat
    c.self.view_is refl refl
    (took.told ∙ ap (λ (octets : List ℕ). gained (g.P.Port.trace c.self.inside.port) (Took c.in-Ok-Datagram.from octets ∷ [])) (sym c.as_slice-bytes.ensures.same))
    c.now-at.ensures took.faults_kept took.quiets_kept c.end_by.ensures
    (c.take_in.ensures.takes opening is)

pub returns-in-Ok-Quiet-clause-receives : goal.returns-in-Ok-Quiet-clause-receives
returns-in-Ok-Quiet-clause-receives g c = λ opening is.
    let took = rw c.in-Ok-Quiet.field-0-is at c.in-Ok-Quiet.ensures in
    Receives-quiet opening c.args.keys.now c.args.basis.now c.args.who c.now-at-in-Ok-Quiet.result c.call.result c.end_by-in-Ok-Quiet.result _ c.args.self.now _ c.args.seat.now c.call.new.seat
    c.self.view_is refl refl took.told c.now-at-in-Ok-Quiet.ensures took.faults_kept (took.quiet refl) c.end_by-in-Ok-Quiet.ensures
    (c.call.ensures.called opening is)

pub returns-in-Err-Failed-clause-receives : goal.returns-in-Err-Failed-clause-receives
returns-in-Err-Failed-clause-receives g c = λ opening is.
    let took = rw c.in-Err-Failed.field-0-is at c.in-Err-Failed.ensures in
    let stopped = c.stop_for_fault.ensures.called opening is in
    Receives-failed opening c.args.keys.now c.args.basis.now c.args.who stopped.0 c.stop_for_fault.result _ c.args.self.now _ c.args.seat.now c.stop_for_fault.new.seat
    c.self.view_is refl refl took.told refl (took.failed refl) took.quiets_kept stopped.1
