use Rattle.std.proofs.Common.{subst}
use Rattle.server_core.specs.Responses.{grams_of}
use Rattle.worker.specs.Serving.{IsGivenAs}
use Rattle.worker.proofs.ServingLemmas.{given-as, told-as}
use Rattle.worker.proofs.serving.answer.Goals as goal

pub returns-clause-given : goal.returns-clause-given
returns-clause-given g c =
    let gave = c.give_response-given.ensures in
    let act = c.given_act.ensures in
    let value = c.response_to.ensures.value in (
      c.now-xmt.result,
      c.now-xmt.ensures,
      subst (λ response. IsGivenAs c.args.place c.now-xmt.result c.args.reply (grams_of c.args.common.now.keys c.args.context.now c.now-xmt.result response) c.given_act.result) value
          (given-as c.args.place c.now-xmt.result c.args.reply c.kind_by-kind.result c.give_response-given.result c.given_act.result _ c.kind_by-kind.ensures act.given act.whole act.failed act.dropped gave.whole gave.cut),
      told-as _ _ _ (grams_of c.args.common.now.keys c.args.context.now c.now-xmt.result) _ _ _ _ value act.given gave.given,
    )
