-- The order of prefixes in a list of rules: our own rule, by which a longer prefix stands after those that hold it.
use Rattle.std.specs.Prelude.{◌==◌, ◌&&◌, nat_lt, Bool, if◌then◌else◌}
use Rattle.net_addr.specs.Addresses.{bits_of, number_of}
use Rattle.net_addr.specs.Prefixes.{same_family}
use Rattle.net_addr.specs.declared.prefix.Prefix.{Prefix}

-- the first prefix stands before the second: IPv4 before IPv6, then the lower address, then the shorter
unfoldable pub prefix_before : Prefix → Prefix → Bool
prefix_before one other =
    if same_family one.ip other.ip
    then (if number_of one.ip == number_of other.ip
    then nat_lt one.length other.length
    else nat_lt (number_of one.ip) (number_of other.ip))
    else nat_lt (bits_of one.ip) (bits_of other.ip)

-- two prefixes are of one family and have the same address and length
unfoldable pub same_prefix : Prefix → Prefix → Bool
same_prefix one other =
    same_family one.ip other.ip && (number_of one.ip == number_of other.ip)
    && (one.length == other.length)
