-- Places of rows in a client list: our own words.
use Rattle.std.specs.Prelude.{ℕ, List}
use Rattle.std.specs.List.{position_or_len}
use Rattle.net_addr.specs.Addresses.{same_ip}
use Rattle.net_addr.specs.declared.addr.Ip.{Ip}
use Rattle.recency.specs.declared.row.Row.{Row}

-- how many rows stand before that of a client, or how many there are where it has none
abbrev pub place_of : List Row → Ip → ℕ
place_of rows ip = position_or_len (λ row. same_ip row.ip ip) rows
