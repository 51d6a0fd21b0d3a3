use Rattle.std.proofs.Common.{ap, ◌∙◌, ◌++◌, List, ℕ}
use Rattle.ntp_packet.specs.Packet.{spelled_header}
use Rattle.server_core.specs.Reply.{ended, time_reply_of}
use Rattle.server_core.proofs.reply.time_reply_into.Goals as goal

pub returns-clause-value : goal.returns-clause-value
unfolding time_reply_of
returns-clause-value c =
    c.end.ensures.value ∙ ap (ended c.args.keys.now c.args.ask.now.auth) (
    c.put.ensures ∙ ap (λ (front : List ℕ). front ++ c.write.result) c.clear.ensures
    ∙ c.write.ensures.spelled ∙ ap spelled_header c.header_of.ensures.value)
