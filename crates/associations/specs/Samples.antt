-- The sample of a reply, by its origin, receive and transmit timestamps and the destination timestamp (RFC 5905, section 8; the roundings and the bounds are our own rules).
use Rattle.std.specs.Prelude.{ℕ, ℤ, pos, negsuc, ◌+◌, ◌-◌, ◌^◌, ◌+ℤ◌, ◌-ℤ◌, int_div, unsigned_abs}
use Rattle.std.specs.Int.{int_max, int_min}
use Rattle.clock_filter.specs.declared.samples.Sample.{Sample}
use Rattle.fixed_time.specs.Time.{diff_of, drift_of}
use Rattle.fixed_time.specs.declared.time.Ntp64.{Ntp64}
use Rattle.fixed_time.specs.declared.time.TheConstants.{PHI}
use Rattle.ntp_packet.specs.declared.packet.Header.{Header}
use Rattle.associations.specs.declared.sampling.TheConstants.{RESOLUTION, MAX_DELAY}

-- how far the server's clock is ahead, summed over both ways
abbrev pub lead_by : Header → Ntp64 → ℤ
lead_by header destination = diff_of header.receive.0 header.origin.0 +ℤ diff_of header.transmit.0 destination.0

-- the round trip without the time that the reply took inside the server
abbrev pub round_trip_by : Header → Ntp64 → ℤ
round_trip_by header destination = diff_of destination.0 header.origin.0 -ℤ diff_of header.transmit.0 header.receive.0

-- a delay is held between the least and the longest
abbrev pub held_delay : ℤ → ℕ
held_delay delay = unsigned_abs (int_max (pos RESOLUTION) (int_min delay (pos MAX_DELAY)))

-- a precision, in log2 seconds and held between -32 and 0, in 32.32 seconds
abbrev pub resolution_of : ℤ → ℕ
resolution_of (pos n) = 2 ^ 32
resolution_of (negsuc n) = 2 ^ (31 - n)

-- for how long the reply was waited for, by our clock: no time where it was set back
abbrev pub waited_for : Header → Ntp64 → ℕ
waited_for header destination = unsigned_abs (int_max (pos 0) (diff_of destination.0 header.origin.0))

-- both precisions, and how far our clock may have drifted meanwhile
abbrev pub dispersion_by : Header → Ntp64 → ℕ
dispersion_by header destination = resolution_of header.precision + RESOLUTION + drift_of (waited_for header destination) PHI

-- the sample of a reply that came at this moment: its offset is half the lead, toward zero
unfoldable pub sample_by : Header → Ntp64 → ℕ → Sample
sample_by header destination moment = record {
  offset = record { 0 = int_div (lead_by header destination) (pos 2) };
  delay = held_delay (round_trip_by header destination);
  disp = dispersion_by header destination;
  at = moment;
}
