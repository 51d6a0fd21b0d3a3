-- The clients that drawn numbers name: our own rule.
use Rattle.std.specs.Prelude.{ℕ, ◌/◌, ◌%◌, [], ◌∷◌}
use Rattle.net_addr.specs.declared.addr.Addr.{Addr}
use Rattle.net_addr.specs.declared.addr.Ip.{Ip}
use Rattle.net_addr.specs.declared.addr.Ip.TheVariants.{V4}

-- the IP address of the client of a number
abbrev pub client_ip : ℕ → Ip
client_ip number = V4 (10 ∷ 0 ∷ number / 256 ∷ number % 256 ∷ [])

-- its address
abbrev pub client_addr : ℕ → Addr
client_addr number = record { ip = client_ip number; port = 123 }
