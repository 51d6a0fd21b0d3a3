use Rattle.ntpq_tool.proofs.InquiryLemmas.{no_reply-quiets}
use Rattle.ntpq_tool.proofs.PeerLemmas.{Runs-later, Runs-unanswered}
use Rattle.ntpq_tool.proofs.peers.ask_peers.Goals as goal

pub returns-in-Ok-clause-ran : goal.returns-in-Ok-clause-ran
returns-in-Ok-clause-ran g c =
    Runs-later _ _ _ c.in-Ok.status c.in-Ok.text _ _ _ _ c.status_request-request.ensures.value c.in-Ok.ensures.asked c.ask_named.ensures.ran

pub returns-clause-ran : goal.returns-clause-ran
returns-clause-ran g c = Runs-unanswered _ _ _ c.in-Err.fault _ _ c.status_request-request.ensures.value c.in-Err.ensures.asked

pub returns-clause-given_up : goal.returns-clause-given_up
returns-clause-given_up g c = λ is. no_reply-quiets _ _ _ c.in-Err.fault _ _ c.in-Err.ensures.asked (cc is)
