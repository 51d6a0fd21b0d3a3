use Rattle.std.proofs.Common.{◌∷◌, [], sym, ap, subst}
use Rattle.edge_traits.specs.Told.{Grows}
use Rattle.server_core.specs.Control.{IsReadRequest}
use Rattle.worker.specs.Serving.{Becomes}
use Rattle.worker.proofs.AddingLemmas.{Grows-then}
use Rattle.worker.proofs.ServingLemmas.{Becomes-unread, gained-unsent}
use Rattle.worker.proofs.TurnLemmas.{of_err, of_ok}
use Rattle.worker.proofs.serving.serve.Goals as goal

-- its items found no memory
pub returns-in-Err-clause-made : goal.returns-in-Err-clause-made
returns-in-Err-clause-made g c = λ opening is. (
  [],
  c.context_at-context.result.moment ∷ [],
  subst (λ act. Becomes c.args.common.now opening c.args.held.now act [] (c.context_at-context.result.moment ∷ []) c.args.seat.now c.args.seat.now) (sym c.unentered.ensures)
      (Becomes-unread c.args.common.now opening c.args.held.now c.context_at-context.result.moment c.args.seat.now (subst IsReadRequest c.as_slice.ensures.same c.in-Err.ensures.no_memory)),
  subst (λ moment. Grows (g.C.Clock.readings c.args.desk.now.clock) (g.C.Clock.readings c.now.new.self) (moment ∷ [])) (sym (ap (λ context. context.moment) c.context_at-context.ensures)) c.now.ensures,
  gained-unsent _ _ _,
)

-- it has a class
pub returns-in-Ok-clause-made : goal.returns-in-Ok-clause-made
returns-in-Ok-clause-made g c = λ opening is.
    let read = subst (λ moment. Grows (g.C.Clock.readings c.args.desk.now.clock) (g.C.Clock.readings c.now.new.self) (moment ∷ [])) (sym (ap (λ context. context.moment) c.context_at-context.ensures)) c.now.ensures in
    of_ok c.serve_class.result _ _ (c.serve_class.ensures.made opening is)
    (λ act made. (made.0, c.context_at-context.result.moment ∷ made.1, made.2, Grows-then _ _ _ (c.context_at-context.result.moment ∷ []) made.1 read made.3, made.4))

-- a stop stands
pub returns-in-Ok-clause-ended : goal.returns-in-Ok-clause-ended
returns-in-Ok-clause-ended g c = λ opening is.
    of_err c.serve_class.result _ _ _ (c.serve_class.ensures.ended opening is) c.serve_class.ensures.untouched
    (λ stood ended same. (ended.0, c.now.result, ended.1, subst (λ desk. Grows (g.C.Clock.readings c.args.desk.now.clock) (g.C.Clock.readings desk.clock) (c.now.result ∷ [])) (sym same) c.now.ensures))
