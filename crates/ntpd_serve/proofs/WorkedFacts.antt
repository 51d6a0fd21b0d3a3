-- The numbers and texts of the program, by hand. They are our own rules.
use Rattle.std.proofs.Common.{◌≡◌, codes, refl}
use Rattle.std.specs.Fmt.{digits}
use Rattle.server_core.specs.declared.response.Silence.TheVariants.{Ignored, Limited}
use Rattle.ntpd_serve.specs.declared.ending.Ending.TheVariants.{Answered, Silent, Failed}
use Rattle.ntpd_serve.specs.declared.ending.Failure.TheVariants.{Conf, Quiet}
use Rattle.ntpd_serve.specs.declared.once.TheConstants.{PATIENCE}
use Rattle.ntpd_serve.specs.declared.usage.TheConstants.{VERSION}
use Rattle.responders.specs.declared.session.Outcome.TheVariants.{AllClosed, Stopped}
use Rattle.server_core.specs.declared.op.Why.TheVariants.{PortFault, Entries}
use Rattle.ntpd_serve.specs.Ending.{line_of}
use Rattle.ntpd_serve.specs.Sessions.{session_lines}

PATIENCE-is : PATIENCE ≡ 60
PATIENCE-is = refl

VERSION-is : VERSION.now ≡ codes "ntpd 0.1.0\n"
VERSION-is = refl

-- the line of an answer tells how many datagrams it had
two : line_of (Answered 2) ≡ codes "answered 2\n"
unfolding line_of digits
two = refl

-- lines without a number
ignored : line_of (Silent Ignored) ≡ codes "silent ignored\n"
unfolding line_of
ignored = refl

limited : line_of (Silent Limited) ≡ codes "silent limited\n"
unfolding line_of
limited = refl

quiet : line_of (Failed Quiet) ≡ codes "ntpd: quiet\n"
unfolding line_of
quiet = refl

refused : line_of (Failed (Conf 3 2)) ≡ codes "ntpd: conf line 3 word 2\n"
unfolding line_of digits
refused = refl

-- the lines of a session: one where all ports closed or a limit was reached, and two where it failed
closed : session_lines (record { entries = 3; clients = 2; epoch = 1; left = 0 }) AllClosed ≡ codes "session entries 3 clients 2 epoch 1 left 0\n"
unfolding session_lines line_of digits
closed = refl

full : session_lines (record { entries = 3; clients = 2; epoch = 1; left = 0 }) (Stopped (record { who = 0; why = Entries })) ≡ codes "session entries 3 clients 2 epoch 1 left 0\n"
unfolding session_lines line_of digits
full = refl

failed : session_lines (record { entries = 3; clients = 2; epoch = 1; left = 0 }) (Stopped (record { who = 0; why = PortFault })) ≡ codes "session entries 3 clients 2 epoch 1 left 0\nntpd: port\n"
unfolding session_lines line_of digits
failed = refl
