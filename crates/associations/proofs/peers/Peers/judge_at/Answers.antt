use Rattle.std.proofs.Common.{◌≡◌, ◌+◌, slice_set, get_or, ap, ◌∙◌}
use Rattle.fixed_time.specs.declared.time.Ntp64.{Ntp64}
use Rattle.associations.specs.Accepting.{judged, verdict_of}
use Rattle.associations.specs.Taking.{answer_by, time_at}
use Rattle.associations.proofs.TakingLemmas.{lent_at, if_there}
use Rattle.associations.proofs.peers.Peers.judge_at.Goals as goal

pub returns-clause-answer : goal.returns-clause-answer
returns-clause-answer c =
    let lent = c.index_mut.ensures.value ∙ ap (λ xs. get_or xs c.args.place c.index_mut.result.now) c.self.view_is in
    let there = lent_at c.args.self.now c.args.place c.index_mut.result.now c.requires.place lent in
    let time : c.at.result ≡ time_at c.args.clock.now c.args.moment = ap (λ n. record { 0 = n }) c.at.ensures in
    if_there _ c.index_mut.result.now
    (λ p. c.answer.result ≡ answer_by (c.args.place + 1) (verdict_of p c.args.reply.now (time_at c.args.clock.now c.args.moment) c.args.moment))
    there
    (c.answer.ensures.value ∙ ap (answer_by (c.args.place + 1)) (c.judge-verdict.ensures.verdict ∙ ap (λ (t : Ntp64). verdict_of c.index_mut.result.now c.args.reply.now t c.args.moment) time))

pub returns-clause-after : goal.returns-clause-after
returns-clause-after c =
    let lent = c.index_mut.ensures.value ∙ ap (λ xs. get_or xs c.args.place c.index_mut.result.now) c.self.view_is in
    let there = lent_at c.args.self.now c.args.place c.index_mut.result.now c.requires.place lent in
    let time : c.at.result ≡ time_at c.args.clock.now c.args.moment = ap (λ n. record { 0 = n }) c.at.ensures in
    if_there _ c.index_mut.result.now
    (λ p. slice_set c.self.inside.list.items c.args.place c.judge-verdict.new.of ≡ slice_set c.args.self.now c.args.place (judged p c.args.reply.now (time_at c.args.clock.now c.args.moment) c.args.moment))
    there
    (ap (λ xs. slice_set xs c.args.place c.judge-verdict.new.of) c.self.view_is
    ∙ ap (slice_set c.args.self.now c.args.place) (c.judge-verdict.ensures.after ∙ ap (λ (t : Ntp64). judged c.index_mut.result.now c.args.reply.now t c.args.moment) time))
