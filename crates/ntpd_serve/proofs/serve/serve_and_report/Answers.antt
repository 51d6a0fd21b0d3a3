use Rattle.std.proofs.Common.{subst}
use Rattle.server_core.specs.States.{stop_in}
use Rattle.ntpd_serve.specs.Ending.{Prints}
use Rattle.ntpd_serve.specs.Sessions.{outcome_status, session_lines}
use Rattle.ntpd_serve.specs.declared.outcome.SessionFacts.{SessionFacts}
use Rattle.ntpd_serve.proofs.ServeLemmas.{SaysOfSession-Prints, clock_ended-says, port_failed-says, status-says}
use Rattle.ntpd_serve.proofs.serve.serve_and_report.Goals as goal

pub returns-clause-session : goal.returns-clause-session
returns-clause-session g c =
    let did = c.serve_session-session.ensures in
    let outcome = c.serve_session-session.result.1 in (
      outcome,
      record {
        served = did.served;
        state = did.state;
        outcome_is = did.outcome;
        closed = did.closed;
        pilot_closed = did.pilot_closed;
        common_kept = did.common;
        no_memory = did.no_memory;
      },
      subst
          (λ (facts : SessionFacts). Prints (session_lines facts outcome) (outcome_status outcome) c.report_session-status.result (g.S.Sink.contents c.args.out.now) (g.S.Sink.contents c.report_session-status.new.out))
          c.facts_of.ensures
          c.report_session-status.ensures.reported,
    )

pub returns-clause-status : goal.returns-clause-status
returns-clause-status g c =
    status-says _ (stop_in c.serve_session-session.result.0.book.journal)
    (SaysOfSession-Prints c.serve_session-session.result.1 _ _ _ _ _ c.serve_session-session.ensures.outcome c.report_session-status.ensures.reported)

pub returns-clause-port_failed : goal.returns-clause-port_failed
returns-clause-port_failed g c =
    port_failed-says _ (stop_in c.serve_session-session.result.0.book.journal)
    (SaysOfSession-Prints c.serve_session-session.result.1 _ _ _ _ _ c.serve_session-session.ensures.outcome c.report_session-status.ensures.reported)

pub returns-clause-clock_ended : goal.returns-clause-clock_ended
returns-clause-clock_ended g c =
    clock_ended-says _ (stop_in c.serve_session-session.result.0.book.journal)
    (SaysOfSession-Prints c.serve_session-session.result.1 _ _ _ _ _ c.serve_session-session.ensures.outcome c.report_session-status.ensures.reported)
