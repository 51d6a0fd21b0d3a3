use Rattle.std.proofs.Common.{◌∙◌, [], Err, refl, ap, arith}
use Rattle.shared_book.proofs.EntryLemmas.{prefix_self}
use Rattle.worker.proofs.AddingLemmas.{Grows-nothing}
use Rattle.worker.proofs.TurnLemmas.{Did-still, Did-stopped, Did-swept, Did-took, Did-unswept, Did-view, Enters-ended, Enters-stopped, carry-none}
use Rattle.worker.proofs.worker.Worker.receive.Goals as goal

-- a datagram is carried
pub returns-in-Ok-Datagram-clause-held : goal.returns-in-Ok-Datagram-clause-held
returns-in-Ok-Datagram-clause-held g c = λ common opening is none.
    let took = rw c.in-Ok-Datagram.field-0-is at c.in-Ok-Datagram.ensures in
    Did-view g.P.Port.trace g.P.Port.faults g.P.Port.quiets g.P.Port.address g.P.Port.most g.C.Clock.readings common opening _ 0 _ c.args.self.now c.args.seat.now _ c.self.view_is
    (Did-took common opening _ _ _ _ _ _ _ _ (prefix_self _) (ap (λ w. w.carry) c.self.view_is ∙ c.requires.empty) took.told took.faults_kept took.quiets_kept took.address_kept took.most_kept)

-- a sweep stands
pub returns-in-Ok-clause-ended : goal.returns-in-Ok-clause-ended
returns-in-Ok-clause-ended g c = λ common opening is.
    let took = rw c.in-Ok-Quiet.field-0-is at c.in-Ok-Quiet.ensures in
    let swept = c.in-Ok.ensures.swept opening is in (
      0,
      refl,
      Did-view g.P.Port.trace g.P.Port.faults g.P.Port.quiets g.P.Port.address g.P.Port.most g.C.Clock.readings common opening _ 0 _ c.args.self.now c.args.seat.now _ c.self.view_is
          (Did-swept common opening _ swept.0 _ _ _ _ _ _ _ _ _ _ swept.1 c.sweep.ensures.same_seat (carry-none _ _ _ (ap (λ w. w.carry) c.self.view_is ∙ c.requires.empty)) took.told swept.2
          took.faults_kept (took.quiet refl) took.address_kept took.most_kept),
    )

-- a sweep was refused
pub returns-in-Err-Ended-clause-ended : goal.returns-in-Err-Ended-clause-ended
returns-in-Err-Ended-clause-ended g c = λ common opening is.
    let took = rw c.in-Ok-Quiet.field-0-is at c.in-Ok-Quiet.ensures in
    let refused = c.in-Err-Ended.ensures.ended opening c.in-Err-Ended.stop is (ap Err c.in-Err-Ended.field-0-is) in (
      1,
      omega arith,
      Did-view g.P.Port.trace g.P.Port.faults g.P.Port.quiets g.P.Port.address g.P.Port.most g.C.Clock.readings common opening _ 1 _ c.args.self.now c.args.seat.now _ c.self.view_is
          (Did-unswept common opening _ refused.0 _ _ _ _ _ _ _ _ (Enters-ended opening _ _ _ _ _ _ refused.1) c.sweep.ensures.same_seat (carry-none _ _ _ (ap (λ w. w.carry) c.self.view_is ∙ c.requires.empty)) took.told refused.2
          took.faults_kept (took.quiet refl) took.address_kept took.most_kept),
    )

-- nothing will come
pub returns-in-Ok-Closed-clause-ended : goal.returns-in-Ok-Closed-clause-ended
returns-in-Ok-Closed-clause-ended g c = λ common opening is.
    let took = rw c.in-Ok-Closed.field-0-is at c.in-Ok-Closed.ensures in (
      0,
      refl,
      Did-view g.P.Port.trace g.P.Port.faults g.P.Port.quiets g.P.Port.address g.P.Port.most g.C.Clock.readings common opening _ 0 _ c.args.self.now c.args.seat.now _ c.self.view_is
          (Did-still common opening _ _ _ _ _ _ _ _ (prefix_self _) (carry-none _ _ _ (ap (λ w. w.carry) c.self.view_is ∙ c.requires.empty)) took.told took.faults_kept took.quiets_kept took.address_kept took.most_kept),
    )

-- memory was wanting in the port
pub returns-in-Err-NoMemory-clause-ended : goal.returns-in-Err-NoMemory-clause-ended
returns-in-Err-NoMemory-clause-ended g c = λ common opening is.
    let took = rw c.in-Err-NoMemory.field-0-is at c.in-Err-NoMemory.ensures in (
      0,
      refl,
      Did-view g.P.Port.trace g.P.Port.faults g.P.Port.quiets g.P.Port.address g.P.Port.most g.C.Clock.readings common opening _ 0 _ c.args.self.now c.args.seat.now _ c.self.view_is
          (Did-still common opening _ _ _ _ _ _ _ _ (prefix_self _) (carry-none _ _ _ (ap (λ w. w.carry) c.self.view_is ∙ c.requires.empty)) took.told took.faults_kept took.quiets_kept took.address_kept took.most_kept),
    )

-- the port failed
pub returns-in-Err-Failed-clause-ended : goal.returns-in-Err-Failed-clause-ended
returns-in-Err-Failed-clause-ended g c = λ common opening is.
    let took = rw c.in-Err-Failed.field-0-is at c.in-Err-Failed.ensures in (
      0,
      omega arith,
      Did-view g.P.Port.trace g.P.Port.faults g.P.Port.quiets g.P.Port.address g.P.Port.most g.C.Clock.readings common opening _ 0 _ c.args.self.now c.args.seat.now _ c.self.view_is
          (Did-stopped common opening 1 _ [] _ _ _ _ _ _ _ _ _
          (Enters-stopped opening _ _ 1 _ _ _ _ refl (λ before seen. tt) (omega arith) (c.stop.ensures.stopped opening is))
          c.stop.ensures.kept refl (carry-none _ _ _ (ap (λ w. w.carry) c.self.view_is ∙ c.requires.empty)) took.told (Grows-nothing _) (took.failed refl) took.quiets_kept took.address_kept took.most_kept),
    )
