use Rattle.std.proofs.Common.{sym, ◌∙◌}
use Rattle.edge_traits.specs.declared.port.Event.TheVariants.{Took, Silence}
use Rattle.ntpq_client.proofs.TalkLemmas.{after_event-Took, news_of-Took, news_of-Silence}
use Rattle.ntpq_client.proofs.polling.take_one.Goals as goal

pub returns-in-Ok-clause-took : goal.returns-in-Ok-clause-took
returns-in-Ok-clause-took g c =
    let took = rw c.in-Ok-Datagram.field-0-is at c.in-Ok-Datagram.ensures in
    let here = rw c.as_slice.ensures.same at c.in-Ok.ensures in
    (Took c.in-Ok-Datagram.from c.take.new.into, tt, took.told, here.after ∙ sym (after_event-Took _ _ _), here.news ∙ sym (news_of-Took _ _ _))

pub returns-in-Ok-Quiet-clause-took : goal.returns-in-Ok-Quiet-clause-took
returns-in-Ok-Quiet-clause-took g c =
    let took = rw c.in-Ok-Quiet.field-0-is at c.in-Ok-Quiet.ensures in
    (Silence, tt, took.told, c.note_silence.ensures.after, sym (news_of-Silence _))
