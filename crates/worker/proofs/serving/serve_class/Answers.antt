use Rattle.std.proofs.Common.{◌∷◌, ◌∙◌, [], Err, take, sym, ap, subst}
use Rattle.giving.specs.Gives.{sent_events}
use Rattle.edge_traits.specs.Told.{gained}
use Rattle.server_core.specs.Responses.{grams_of, response_to}
use Rattle.worker.specs.Serving.{Becomes}
use Rattle.worker.proofs.AddingLemmas.{Grows-nothing}
use Rattle.worker.proofs.ServingLemmas.{Becomes-answered, Becomes-unentered, Becomes-unheard, gained-unsent, givable-entered}
use Rattle.worker.proofs.TurnLemmas.{with_opening}
use Rattle.worker.proofs.serving.serve_class.Goals as goal

pub answer-requires-clause-givable : goal.answer-requires-clause-givable
answer-requires-clause-givable g c =
    with_opening _ c.requires.opened (λ opening is.
    givable-entered c.args.common.now opening c.args.held.now c.args.context.now c.args.class c.in-Ok.field-0.op c.in-Ok.field-0.request _ _ _ _ c.requires.class (c.in-Ok-enter_or_stop.ensures.entered opening is) c.in-Ok.ensures.response)

-- it is not heard
pub returns-in-Err-clause-made : goal.returns-in-Err-clause-made
returns-in-Err-clause-made g c = λ opening is. (
  [],
  [],
  subst (λ act. Becomes c.args.common.now opening c.args.held.now act [] (c.args.context.now.moment ∷ []) c.args.seat.now c.args.seat.now) (sym c.unentered.ensures)
      (Becomes-unheard c.args.common.now opening c.args.held.now c.args.context.now c.args.class c.in-Err.why c.args.seat.now c.requires.context c.requires.class c.in-Err.ensures.unheard),
  Grows-nothing _,
  gained-unsent _ _ _,
)

-- memory was wanting
pub returns-in-Err-NoMemory-clause-made : goal.returns-in-Err-NoMemory-clause-made
returns-in-Err-NoMemory-clause-made g c = λ opening is. (
  [],
  [],
  subst (λ act. Becomes c.args.common.now opening c.args.held.now act [] (c.args.context.now.moment ∷ []) c.args.seat.now c.enter_or_stop.new.seat) (sym c.unentered-in-Err-NoMemory.ensures)
      (Becomes-unentered c.args.common.now opening c.args.held.now c.args.context.now c.args.class c.in-Ok.field-0.op c.args.seat.now c.enter_or_stop.new.seat c.requires.context c.requires.class c.in-Ok.ensures.op
      (c.in-Err-NoMemory.ensures.lacking opening is (ap Err c.in-Err-NoMemory.field-0-is))),
  Grows-nothing _,
  gained-unsent _ _ _,
)

-- it was entered
pub returns-in-Ok-enter_or_stop-clause-made : goal.returns-in-Ok-enter_or_stop-clause-made
returns-in-Ok-enter_or_stop-clause-made g c = λ opening is.
    let given = c.answer.ensures.given in (
      _,
      given.0 ∷ [],
      Becomes-answered c.args.common.now opening c.args.held.now c.answer.result c.args.context.now c.args.class c.in-Ok.field-0.op c.in-Ok.field-0.request _ _ given.0 _ _ c.requires.context c.answer.ensures.moment c.requires.class c.in-Ok.ensures.op
          (c.in-Ok-enter_or_stop.ensures.entered opening is) c.in-Ok.ensures.response c.answer.ensures.from given.2,
      given.1,
      given.3 ∙ ap (λ from. gained (g.P.Port.trace c.args.desk.now.port) (sent_events from (take c.answer.result.given (grams_of c.args.common.now.keys c.args.context.now given.0 (response_to c.in-Ok.field-0.request c.in-Ok-enter_or_stop.reply))))) (sym c.answer.ensures.from),
    )
