use Rattle.ntpq_tool.specs.Answers.{IsPeerLine}
use Rattle.ntpq_tool.proofs.InquiryLemmas.{no_reply-quiets, Inquired-answered, Inquired-fault, Inquired-nothing}
use Rattle.ntpq_tool.proofs.inquiries.ask_peer.Goals as goal

pub returns-in-Ok-ask-clause-inquired : goal.returns-in-Ok-ask-clause-inquired
returns-in-Ok-ask-clause-inquired g c =
    Inquired-answered (IsPeerLine c.args.association) _ _ _ _ c.in-Ok-ask.status c.in-Ok-ask.text _ _ _ c.in-Ok.ensures.value c.in-Ok-ask.ensures.asked c.line_of_peer.ensures

pub returns-clause-inquired : goal.returns-clause-inquired
returns-clause-inquired g c =
    Inquired-fault (IsPeerLine c.args.association) _ _ _ _ c.in-Err.fault _ _ c.in-Ok.ensures.value c.in-Err.ensures.asked

pub returns-in_default-clause-inquired : goal.returns-in_default-clause-inquired
returns-in_default-clause-inquired g c = Inquired-nothing (IsPeerLine c.args.association) _ _ _

pub returns-clause-given_up : goal.returns-clause-given_up
returns-clause-given_up g c = λ is. no_reply-quiets _ _ _ c.in-Err.fault _ _ c.in-Err.ensures.asked (cc is)
