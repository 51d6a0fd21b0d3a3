use Rattle.std.proofs.Common.{Ok, ap, ◌∙◌, inl}
use Rattle.ntpq_report.specs.Peers.{peer_line_of, values_of}
use Rattle.ntpq_report.proofs.peers.peer_line.Goals as goal

pub returns-in_err-line_of_peer-in-Some-clause-refused : goal.returns-in_err-line_of_peer-in-Some-clause-refused
returns-in_err-line_of_peer-in-Some-clause-refused c = (
  λ bad values are. (let fault = rw bad at c.from_residual.ensures.1 in cc),
  λ none. absurd (none (values_of c.in-Some.variables) c.in-Some.ensures.found),
)

pub returns-in_ok-line_of_peer-in-Some-clause-only : goal.returns-in_ok-line_of_peer-in-Some-clause-only
returns-in_ok-line_of_peer-in-Some-clause-only c = λ values are.
    inl (ap Ok (c.in_ok-line_of_peer-in-Some.ensures ∙ ap (peer_line_of c.args.selection) (c.in-Some.ensures.only values are)))

pub returns-in_ok-line_of_peer-in-Some-clause-refused : goal.returns-in_ok-line_of_peer-in-Some-clause-refused
returns-in_ok-line_of_peer-in-Some-clause-refused c =
    (λ bad values are. cc, λ none. absurd (none (values_of c.in-Some.variables) c.in-Some.ensures.found))

pub returns-in-None-clause-only : goal.returns-in-None-clause-only
returns-in-None-clause-only c = λ values are. absurd (c.in-None.ensures.none values are)
