use Rattle.std.proofs.Common.{None, Some, Result, IfErr, refl, subst, rules, arith}
use Rattle.associations.proofs.AnswerLemmas.{early_not_malformed, judged_after, judged_answer, lent_there, refused_after, refused_answer}
use Rattle.associations.specs.Judging.{IsDecided}
use Rattle.associations.specs.Taking.{time_at}
use Rattle.associations.specs.declared.judging.ReplyFault.{ReplyFault}
use Rattle.associations.specs.declared.peers.TakenReply.{TakenReply}
use Rattle.associations.proofs.peers.Peers.take_reply.Goals as goal

pub returns-in-Err-clause-answer : goal.returns-in-Err-clause-answer
returns-in-Err-clause-answer c = λ reading is.
    refused_answer c.args.self.now c.args.from.now c.index.result.now c.place-place.result reading c.in-Err.fault
    (time_at c.args.clock.now c.args.moment) c.args.moment c.place-place.ensures.place (lent_there c.self.inside.list.items c.args.self.now c.place-place.result c.index.result.now c.self.view_is
    (omega (arith, c.if-place-len.false, c.len.ensures, c.self.inside.list.ok.0)) c.index.ensures) (c.in-Err.ensures.fault reading is)

pub returns-in-Err-clause-after : goal.returns-in-Err-clause-after
returns-in-Err-clause-after c = λ reading is.
    refused_after c.args.self.now c.args.from.now c.index.result.now c.place-place.result reading c.in-Err.fault
    (time_at c.args.clock.now c.args.moment) c.args.moment c.place-place.ensures.place (lent_there c.self.inside.list.items c.args.self.now c.place-place.result c.index.result.now c.self.view_is
    (omega (arith, c.if-place-len.false, c.len.ensures, c.self.inside.list.ok.0)) c.index.ensures) (c.in-Err.ensures.fault reading is)

pub returns-in-Err-clause-malformed : goal.returns-in-Err-clause-malformed
returns-in-Err-clause-malformed c = (
  λ is. (search rules, λ reply read. early_not_malformed c.index.result.now reply.header c.in-Err.fault (c.in-Err.ensures.fault (Some reply) read) cc),
  λ both. let same = c.in-Err.ensures.fault None both.1 in cc,
)

pub returns-in-Ok-clause-answer : goal.returns-in-Ok-clause-answer
returns-in-Ok-clause-answer c = λ reading is.
    judged_answer c.args.self.now c.args.from.now c.index.result.now c.place-place.result c.in-Ok.reply reading c.judge_at.result
    (time_at c.args.clock.now c.args.moment) c.args.moment c.place-place.ensures.place (lent_there c.self.inside.list.items c.args.self.now c.place-place.result c.index.result.now c.self.view_is
    (omega (arith, c.if-place-len.false, c.len.ensures, c.self.inside.list.ok.0)) c.index.ensures) (c.in-Ok.ensures.only reading is) c.judge_at.ensures.answer

pub returns-in-Ok-clause-after : goal.returns-in-Ok-clause-after
returns-in-Ok-clause-after c = λ reading is.
    judged_after c.args.self.now c.args.from.now c.index.result.now c.place-place.result c.in-Ok.reply reading c.judge_at.new.self
    (time_at c.args.clock.now c.args.moment) c.args.moment c.place-place.ensures.place (lent_there c.self.inside.list.items c.args.self.now c.place-place.result c.index.result.now c.self.view_is
    (omega (arith, c.if-place-len.false, c.len.ensures, c.self.inside.list.ok.0)) c.index.ensures) (c.in-Ok.ensures.only reading is) c.judge_at.ensures.after

pub returns-in-Ok-clause-malformed : goal.returns-in-Ok-clause-malformed
returns-in-Ok-clause-malformed c = (
  λ is. let decided = subst (λ (r : Result TakenReply ReplyFault). IfErr r IsDecided) is c.judge_at.ensures.decided in absurd (decided.1 refl),
  λ both. let same = c.in-Ok.ensures.only None both.1 in cc,
)
