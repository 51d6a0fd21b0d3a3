use Rattle.std.proofs.Common.{◌≡◌}
use Rattle.ntpq_report.proofs.peer_variables.peer_variables.Goals as goal

pub returns-clause-only : goal.returns-clause-only
returns-clause-only c = λ values are.
    let srcadr : c.in_ok-value_in.field-0.now ≡ values.srcadr = cc (c.in_ok-value_in.ensures, are.srcadr) in
    let refid : c.in_ok-value_in-2.field-0.now ≡ values.refid = cc (c.in_ok-value_in-2.ensures, are.refid) in
    let stratum : c.in_ok-value_in-3.field-0.now ≡ values.stratum = cc (c.in_ok-value_in-3.ensures, are.stratum) in
    let hpoll : c.in_ok-poll_exponent.field-0 ≡ values.hpoll = cc (c.in_ok-poll_exponent.ensures.only values.hpoll are.hpoll) in
    let reach : c.in_ok-value_in-4.field-0.now ≡ values.reach = cc (c.in_ok-value_in-4.ensures, are.reach) in
    let delay : c.in_ok-value_in-5.field-0.now ≡ values.delay = cc (c.in_ok-value_in-5.ensures, are.delay) in
    let offset : c.in_ok-value_in-6.field-0.now ≡ values.offset = cc (c.in_ok-value_in-6.ensures, are.offset) in
    let jitter : c.in_ok-value_in-7.field-0.now ≡ values.jitter = cc (c.in_ok-value_in-7.ensures, are.jitter) in
    λ i. record {
      srcadr = srcadr i;
      refid = refid i;
      stratum = stratum i;
      hpoll = hpoll i;
      reach = reach i;
      delay = delay i;
      offset = offset i;
      jitter = jitter i;
    }

pub returns-in_err-poll_exponent-clause-none : goal.returns-in_err-poll_exponent-clause-none
returns-in_err-poll_exponent-clause-none c =
    rw c.from_residual-in_err-poll_exponent.ensures (λ values are. c.in_err-poll_exponent.ensures.none values.hpoll are.hpoll)
