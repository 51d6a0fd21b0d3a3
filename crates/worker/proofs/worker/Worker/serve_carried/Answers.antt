use Rattle.std.proofs.Common.{◌∙◌, ◌∷◌, ◌<◌, [], IsSome, length, sym, ap, subst}
use Rattle.worker.specs.declared.act.TheConstants.{MAX_ACTS}
use Rattle.worker.specs.Workers.{carry_of}
use Rattle.worker.proofs.AddingLemmas.{Rose-kept, gained-nothing}
use Rattle.worker.proofs.TurnLemmas.{Did-acted, Did-stopped, Did-view, Enters-ended, carry-some}
use Rattle.worker.proofs.worker.Worker.serve_carried.Goals as goal

-- the datagram became an act
pub returns-in-Ok-clause-did : goal.returns-in-Ok-clause-did
returns-in-Ok-clause-did g c = λ opening is.
    let made = c.in-Ok.ensures.made opening is in
    Did-view g.P.Port.trace g.P.Port.faults g.P.Port.quiets g.P.Port.address g.P.Port.most g.C.Clock.readings c.args.common.now opening _ 0 _ c.args.self.now c.args.seat.now _ c.self.view_is
    (Did-acted c.args.common.now opening _ _ c.in-Ok.act made.0 made.1 _ _ _ _ _ _ _ _ _
    (carry-some _ _ (subst (λ w. IsSome w.carry) (sym c.self.view_is) c.requires.carrying)) made.2 c.serve.ensures.same_seat c.serve.ensures.who
    c.push_reserved.ensures.items (subst (λ w. length w.acts < MAX_ACTS) (sym c.self.view_is) c.requires.few) made.4 made.3 c.in-Ok.ensures.failed c.serve.ensures.kept.faults_kept c.serve.ensures.kept.quiets_kept c.serve.ensures.kept.address_kept c.serve.ensures.kept.most_kept)

-- a stop stands
pub returns-in-Err-clause-did : goal.returns-in-Err-clause-did
returns-in-Err-clause-did g c = λ opening is.
    let ended = c.in-Err.ensures.ended opening is in
    Did-view g.P.Port.trace g.P.Port.faults g.P.Port.quiets g.P.Port.address g.P.Port.most g.C.Clock.readings c.args.common.now opening _ 0 _ c.args.self.now c.args.seat.now _ c.self.view_is
    (Did-stopped c.args.common.now opening 0 _ (ended.1 ∷ []) _ _ _ _ _ _ _ _ _
    (Enters-ended opening _ _ _ _ _ _ ended.2) c.serve.ensures.same_seat c.serve.ensures.who (ap (λ held. carry_of c.self.inside.is_carrying held) c.in-Err.ensures.held)
    (ap g.P.Port.trace c.in-Err.ensures.untouched ∙ gained-nothing _) ended.3 (Rose-kept _ _ c.serve.ensures.kept.faults_kept) c.serve.ensures.kept.quiets_kept c.serve.ensures.kept.address_kept c.serve.ensures.kept.most_kept)
