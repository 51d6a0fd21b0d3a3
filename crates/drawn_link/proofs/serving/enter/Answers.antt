use Rattle.std.proofs.Common.{length, sym, ap, ◌∙◌, inr}
use Rattle.server_core.proofs.ResponseLemmas.{IsGivable-response}
use Rattle.server_core.specs.Responses.{response_to, grams_of}
use Rattle.drawn_link.proofs.ServiceLemmas.{IsService-entered, Runs-asked}
use Rattle.drawn_link.proofs.serving.enter.Goals as goal

pub grams_of-requires : goal.grams_of-requires
grams_of-requires c =
    let asked = c.requires.asked in
    IsGivable-response c.args.book.now.state c.args.context.now c.args.visit.now.octets.now c.args.visit.now.from c.args.visit.now.common.now.keys asked.class c.response_to-response.result asked.is_class
    (c.response_to-response.ensures.value ∙ ap (response_to c.args.request) c.in-Ok.ensures.answered.1 ∙ sym (asked.responds c.args.book.now.state))
    (c.response_to-response.ensures.short c.in-Ok.ensures.short) (c.response_to-response.ensures.tellable c.in-Ok.ensures.tellable)

pub returns-in_err-grams-in-Ok-clause-runs : goal.returns-in_err-grams-in-Ok-clause-runs
returns-in_err-grams-in-Ok-clause-runs c =
    Runs-asked c.args.visit.now.common.now c.args.visit.now.from c.args.visit.now.octets.now c.args.context.now c.args.op c.args.request c.args.book.now c.step.new.self c.requires.asked c.in-Ok.ensures.answered.0 c.in-Ok.ensures.next c.in-Ok.ensures.entered

pub returns-in_err-push-in-Ok-clause-runs : goal.returns-in_err-push-in-Ok-clause-runs
returns-in_err-push-in-Ok-clause-runs c =
    Runs-asked c.args.visit.now.common.now c.args.visit.now.from c.args.visit.now.octets.now c.args.context.now c.args.op c.args.request c.args.book.now c.step.new.self c.requires.asked c.in-Ok.ensures.answered.0 c.in-Ok.ensures.next c.in-Ok.ensures.entered

pub returns-in_ok-push-in-Ok-clause-served : goal.returns-in_ok-push-in-Ok-clause-served
returns-in_ok-push-in-Ok-clause-served c =
    inr (
      _,
      IsService-entered c.args.visit.now.common.now c.args.visit.now.from c.args.visit.now.octets.now c.args.visit.now.moment c.args.context.now c.args.op c.args.request c.args.book.now c.step.new.self c.len-place.result c.in-Ok.reply c.kind_by-kind.result c.len.result c.in_ok-grams-in-Ok.grams
          c.requires.context c.requires.asked c.in-Ok.ensures.answered.0 c.in-Ok.ensures.answered.1 c.in-Ok.ensures.next c.in-Ok.ensures.entered c.in-Ok.ensures.short c.in-Ok.ensures.tellable
          (c.len-place.ensures ∙ ap length c.journal.ensures) c.kind_by-kind.ensures (c.in_ok-grams-in-Ok.ensures ∙ ap (grams_of c.args.visit.now.common.now.keys c.args.context.now c.args.context.now.moment) c.response_to-response.ensures.value) c.len.ensures,
      c.in_ok-push-in-Ok.ensures.items,
    )

pub returns-in_ok-push-in-Ok-clause-runs : goal.returns-in_ok-push-in-Ok-clause-runs
returns-in_ok-push-in-Ok-clause-runs c =
    Runs-asked c.args.visit.now.common.now c.args.visit.now.from c.args.visit.now.octets.now c.args.context.now c.args.op c.args.request c.args.book.now c.step.new.self c.requires.asked c.in-Ok.ensures.answered.0 c.in-Ok.ensures.next c.in-Ok.ensures.entered
