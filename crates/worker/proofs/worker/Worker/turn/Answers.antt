use Rattle.std.proofs.Common.{[], length, refl, sym, ap, subst, arith}
use Rattle.worker.specs.Doings.{Did, doing_of}
use Rattle.shared_book.proofs.EntryLemmas.{prefix_self}
use Rattle.worker.proofs.AddingLemmas.{Grows-nothing, Rose-kept, gained-nothing}
use Rattle.worker.proofs.DidLemmas.{Did-nothing}
use Rattle.worker.proofs.TurnLemmas.{Did-stopped, Enters-stopped}
use Rattle.worker.proofs.worker.Worker.turn.Goals as goal

-- there are all the acts that there may be
pub returns-then-len-ge-MAX_ACTS-clause-did : goal.returns-then-len-ge-MAX_ACTS-clause-did
returns-then-len-ge-MAX_ACTS-clause-did g c = λ opening is.
    let acts = ap (λ w. length w.acts) c.self.view_is in (
      0,
      omega arith,
      Did-stopped c.args.common.now opening 0 _ [] _ _ _ _ _ _ _ _ _
          (Enters-stopped opening _ _ 0 _ _ _ _ (ap (λ w. w.who) c.self.view_is) (λ before seen. omega (arith, acts)) (omega arith) (c.stop.ensures.stopped opening is))
          c.stop.ensures.kept refl refl (gained-nothing _) (Grows-nothing _) (Rose-kept _ _ (omega arith)) (omega arith) refl refl,
    )

-- there is no room for an act
pub returns-in-Err-clause-did : goal.returns-in-Err-clause-did
returns-in-Err-clause-did g c = λ opening is. (
  0,
  refl,
  subst (λ w. Did c.args.common.now opening c.args.seat.now.front 0
      (doing_of g.P.Port.trace g.P.Port.faults g.P.Port.quiets g.P.Port.address g.P.Port.most g.C.Clock.readings c.args.self.now c.args.seat.now)
      (doing_of g.P.Port.trace g.P.Port.faults g.P.Port.quiets g.P.Port.address g.P.Port.most g.C.Clock.readings w c.args.seat.now)) (sym c.make_room.ensures.kept)
      (Did-nothing c.args.common.now opening _ _ (prefix_self _)),
)
