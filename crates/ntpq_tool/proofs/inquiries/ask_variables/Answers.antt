use Rattle.ntpq_tool.specs.Answers.{IsVariablesReport}
use Rattle.ntpq_tool.proofs.InquiryLemmas.{no_reply-quiets, Inquired-answered, Inquired-fault}
use Rattle.ntpq_tool.proofs.inquiries.ask_variables.Goals as goal

pub returns-in-Ok-clause-inquired : goal.returns-in-Ok-clause-inquired
returns-in-Ok-clause-inquired g c =
    Inquired-answered (IsVariablesReport c.args.assoc) _ _ _ _ c.in-Ok.status c.in-Ok.text _ _ _ c.variables_request-request.ensures.value c.in-Ok.ensures.asked c.variables_report.ensures

pub returns-clause-inquired : goal.returns-clause-inquired
returns-clause-inquired g c =
    Inquired-fault (IsVariablesReport c.args.assoc) _ _ _ _ c.in-Err.fault _ _ c.variables_request-request.ensures.value c.in-Err.ensures.asked

pub returns-clause-given_up : goal.returns-clause-given_up
returns-clause-given_up g c = λ is. no_reply-quiets _ _ _ c.in-Err.fault _ _ c.in-Err.ensures.asked (cc is)
