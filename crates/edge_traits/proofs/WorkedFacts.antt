-- Constants by their numbers: the most octets of a datagram, and the seconds from 1900 to 1970; and timestamps of days (RFC 5905, section 6, figure 4).
use Rattle.std.proofs.Common.{◌≡◌, refl}
use Rattle.std.proofs.Common.{◌*◌, ◌+◌, ◌^◌}
use Rattle.edge_traits.specs.Readings.{timestamp_after}
use Rattle.edge_traits.specs.declared.octets.TheConstants.{MAX_OCTETS}
use Rattle.edge_traits.specs.declared.real_host.TheConstants.{SECONDS_TO_1970}

MAX_OCTETS-is : MAX_OCTETS ≡ 2048
MAX_OCTETS-is = refl

SECONDS_TO_1970-is : SECONDS_TO_1970 ≡ 2208988800
SECONDS_TO_1970-is = refl

-- 1 January 1970
unix-epoch : timestamp_after (record { secs = 0; nanos = 0 }) ≡ 2208988800 * 2 ^ 32
unix-epoch = refl

-- half a second into 31 December 1999
last-day-of-1999 : timestamp_after (record { secs = 946598400; nanos = 500000000 }) ≡ 3155587200 * 2 ^ 32 + 2 ^ 31
last-day-of-1999 = refl

-- 8 February 2036, in the next era
first-day-of-era-1 : timestamp_after (record { secs = 2086041600; nanos = 0 }) ≡ 63104 * 2 ^ 32
first-day-of-era-1 = refl
