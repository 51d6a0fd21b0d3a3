-- When a server is asked next (RFC 5905, sections 7.4 and 13; by how much a kiss code puts it off is our own rule).
use Rattle.std.specs.Prelude.{ℕ, ◌+◌, ◌*◌, ◌^◌, if◌then◌else◌, nat_lt, Option, None, Some}

-- the moment that is so many seconds after another, in 32.32 seconds, if there is one
abbrev pub moment_after : ℕ → ℕ → Option ℕ
moment_after seconds moment =
    if nat_lt (moment + seconds * 2 ^ 32) (2 ^ 64) then Some (moment + seconds * 2 ^ 32) else None
