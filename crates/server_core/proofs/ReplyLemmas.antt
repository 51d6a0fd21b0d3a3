-- A reply is given by its parts.
use Rattle.std.proofs.Common.{◌≡◌, ℕ, ℤ, refl, max}
use Rattle.fixed_time.specs.Time.{to_short_of}
use Rattle.discipline.specs.SoftClock.{clock_time}
use Rattle.ntp_packet.specs.declared.packet.Header.{Header}
use Rattle.server_core.specs.declared.class.Ask.{Ask}
use Rattle.server_core.specs.declared.reply.Basis.{Basis}
use Rattle.ntp_packet.specs.declared.leap_version_mode.TheConstants.{MODE_SERVER}
use Rattle.server_core.specs.Reply.{shown_stratum, root_dispersion_at, reply_header}

-- a header with these parts, the others the basis's and the ask's
abbrev with_parts : Basis → Ask → (stratum : ℕ) (poll precision : ℤ) (delay dispersion receive transmit : ℕ) → Header
with_parts basis ask stratum poll precision delay dispersion receive transmit = record {
  leap = basis.system.leap;
  version = ask.version;
  mode = MODE_SERVER;
  stratum = stratum;
  poll = poll;
  precision = precision;
  root_delay = record { 0 = delay };
  root_disp = record { 0 = dispersion };
  refid = basis.system.refid;
  reference = basis.system.reference;
  origin = ask.transmit;
  receive = record { 0 = receive };
  transmit = record { 0 = transmit };
}

-- a header is the reply's where each of its parts is
pub reply-from_parts : (basis : Basis) (ask : Ask) (came sent stratum : ℕ) (poll precision : ℤ) (delay dispersion receive transmit : ℕ) → stratum ≡ shown_stratum basis.system.stratum → poll ≡ ask.poll → precision ≡ basis.system.precision → delay ≡ to_short_of basis.system.root_delay → dispersion ≡ to_short_of (root_dispersion_at basis.system came) → receive ≡ clock_time basis.clock came → transmit ≡ clock_time basis.clock (max came sent) → with_parts basis ask stratum poll precision delay dispersion receive transmit ≡ reply_header basis ask came sent
unfolding reply_header
reply-from_parts basis ask came sent stratum poll precision delay dispersion receive transmit a b c d e f g =
    rw (a, b, c, d, e, f, g) refl
