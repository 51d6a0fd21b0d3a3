use Rattle.std.proofs.Common.{length, subst, sym, ◌<◌}
use Rattle.server_core.specs.Responses.{IsGivable, grams_of}
use Rattle.server_core.specs.declared.response.Response.{Response}
use Rattle.giving.proofs.GiveLemmas.{read-some}
use Rattle.giving.proofs.given.give_response.Goals as goal

pub returns-in-Err-clause-cut : goal.returns-in-Err-clause-cut
returns-in-Err-clause-cut g c = λ lacking.
    let givable = subst (IsGivable c.args.keys.now) c.in-Read.is c.requires.givable in
    subst (λ (response : Response). 0 < length (grams_of c.args.keys.now c.args.context.now c.args.sent response)) (sym c.in-Read.is)
    (read-some c.in-Read.reply c.in-Read.from c.in-Read.head c.args.context.now givable.0)
