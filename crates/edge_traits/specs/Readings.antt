-- What a host of the system takes for its origin and its salt, by what could be read as it was made.
use Rattle.std.specs.Prelude.{ℕ, ◌+◌, ◌*◌, ◌/◌, ◌%◌, ◌^◌, List, replicate, Option, Some, None}
use Rattle.std.specs.Duration.{as_nanos}
use Rattle.std.specs.declared.time.Duration.{Duration}
use Rattle.edge_traits.specs.declared.real_host.TheConstants.{SECONDS_TO_1970}

-- a time span in units of 2^-32 seconds, rounded down
abbrev pub units_in : Duration → ℕ
units_in span = as_nanos span * 2 ^ 32 / 10 ^ 9

-- the timestamp of the moment so long after the start of 1970 (RFC 5905, section 6)
abbrev pub timestamp_after : Duration → ℕ
timestamp_after since_1970 = (SECONDS_TO_1970 * 2 ^ 32 + units_in since_1970) % 2 ^ 64

-- the origin: 0 where the wall clock could not be read (our own rule)
abbrev pub origin_by : Option Duration → ℕ
origin_by None = 0
origin_by (Some since_1970) = timestamp_after since_1970

-- the salt: zero octets where the system gave no random ones (our own rule)
abbrev pub salt_by : Option (List ℕ) → List ℕ
salt_by None = replicate 16 0
salt_by (Some octets) = octets
