use Rattle.std.proofs.Common.{◌≡◌}
use Rattle.server_core.specs.declared.class.Class.TheVariants.{Silent}
use Rattle.server_core.specs.Responses.{IsGivable, IsShortResponse, IsTellableResponse, response_of}
use Rattle.server_core.proofs.ResponseLemmas.{IfOk-three, IsGivable-response, book_after-silent, unmet-read}
use Rattle.server_core.proofs.responding.respond.Goals as goal

pub returns-in-Err-clause-untaken : goal.returns-in-Err-clause-untaken
returns-in-Err-clause-untaken c = unmet-read _ _ _ c.args.context.now c.args.book.now c.in-Err.ensures.no_memory

pub returns-in-Ok-clause-givable : goal.returns-in-Ok-clause-givable
returns-in-Ok-clause-givable c =
    IfOk-three c.respond_to_class.result (λ response. response ≡ response_of c.args.book.now.state c.args.context.now c.in-Ok.class) IsShortResponse IsTellableResponse (IsGivable c.args.keys.now)
    c.respond_to_class.ensures.response c.respond_to_class.ensures.short c.respond_to_class.ensures.tellable
    (λ response. IsGivable-response c.args.book.now.state c.args.context.now _ _ _ c.in-Ok.class response c.in-Ok.ensures.found)

pub returns-in-Ok-clause-silent : goal.returns-in-Ok-clause-silent
returns-in-Ok-clause-silent c = λ why is.
    book_after-silent c.respond_to_class.result _ _ c.args.context.now c.in-Ok.class why (c.in-Ok.ensures.only (Silent why) is) c.respond_to_class.ensures.after c.respond_to_class.ensures.kept
