use Rattle.drawn_session.proofs.RunLemmas.{ran-by}
use Rattle.drawn_session.proofs.run.session_run.Goals as goal

pub finish-requires : goal.finish-requires
finish-requires g c = record {
  ran = ran-by c.serve_session-session.result.1 c.in-AllClosed.is;
  served = (
    c.in_ok-first.first,
    c.in_ok-first.ensures,
    record {
      served = c.serve_session-session.ensures.served;
      state = c.serve_session-session.ensures.state;
      outcome_is = c.serve_session-session.ensures.outcome;
      closed = c.serve_session-session.ensures.closed;
      pilot_closed = c.serve_session-session.ensures.pilot_closed;
      common_kept = c.serve_session-session.ensures.common;
      no_memory = c.serve_session-session.ensures.no_memory;
    },
  );
}
