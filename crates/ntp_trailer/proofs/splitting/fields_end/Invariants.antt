use Rattle.std.proofs.Common.{◌≤◌, ◌-◌, length, drop}
use Rattle.ntp_trailer.specs.Endings.{LeadsTo}
use Rattle.ntp_trailer.proofs.splitting.fields_end.Given as goal

-- the octets before the place are fields
abbrev pub invariant-loop-place : goal.invariant-loop-place
invariant-loop-place l = record {
  within : l.place ≤ length l.bytes;
  fields : LeadsTo l.bytes l.place (drop l.place l.bytes);
}

abbrev pub decreases-loop-place : goal.decreases-loop-place
decreases-loop-place l = length l.bytes - l.place
