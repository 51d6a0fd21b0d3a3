use Rattle.std.proofs.Common.{arith}
use Rattle.ntpd_serve.proofs.ServeLemmas.{HasRefusedFile-cause, Reports-due, Reports-none_due}
use Rattle.ntpd_serve.proofs.serve.serve_file.Goals as goal

pub returns-in-Ok-clause-refused : goal.returns-in-Ok-clause-refused
returns-in-Ok-clause-refused g c = λ why due.
    let made = c.set_up.ensures in
    Reports-none_due (g.H.Host.files c.args.host.now) c.args.name.now c.set_up.result c.in-Ok.session why c.serve_and_report-session.result.0 (g.S.Sink.contents c.args.out.now) (g.S.Sink.contents c.serve_and_report-session.new.out)
    (record { conf_refused = made.conf_refused; conf_too_long = made.conf_too_long; keys_refused = made.keys_refused; keys_too_long = made.keys_too_long })
    c.in-Ok.is
    due

pub returns-in-Ok-clause-file : goal.returns-in-Ok-clause-file
returns-in-Ok-clause-file g c = λ two. absurd (grind (arith, c.serve_and_report-session.ensures.status, two))

pub returns-in-Err-clause-refused : goal.returns-in-Err-clause-refused
returns-in-Err-clause-refused g c = λ why due.
    let made = c.set_up.ensures in
    Reports-due (g.H.Host.files c.args.host.now) c.args.name.now c.set_up.result c.in-Err.fault c.taken_apart-why.result.0 why c.ended_before.result.status (g.S.Sink.contents c.args.out.now) (g.S.Sink.contents c.ended_before.new.out)
    (record { conf_refused = made.conf_refused; conf_too_long = made.conf_too_long; keys_refused = made.keys_refused; keys_too_long = made.keys_too_long })
    c.in-Err.is
    c.taken_apart-why.ensures.why
    c.ended_before.ensures.reported
    c.ended_before.ensures.status
    due

pub returns-in-Err-clause-file : goal.returns-in-Err-clause-file
returns-in-Err-clause-file g c =
    HasRefusedFile-cause g.H.S.Source.faults (g.H.Host.files c.args.host.now) c.args.name.now (g.H.Host.faults c.args.host.now) (g.H.Host.faults c.set_up.new.host) c.in-Err.fault c.taken_apart-why.result.0 c.ended_before.result.status.0 c.in-Err.ensures.cause c.taken_apart-why.ensures.why c.ended_before.ensures.status
