-- IP addresses of both families, as octets, as bits and as numbers (RFC 791, section 3.2; RFC 4291, section 2).
use Rattle.std.specs.Prelude.{◌≡◌, ℕ, ◌^◌, ◌<◌, ◌==◌, ◌&&◌, Bool, false, length, All, bytes_eq}
use Rattle.std.specs.Int.{w32, w128, from_be_bytes}
use Rattle.net_addr.specs.declared.addr.Addr.{Addr}
use Rattle.net_addr.specs.declared.addr.Ip.{Ip}
use Rattle.net_addr.specs.declared.addr.Ip.TheVariants.{V4, V6}

-- an IP address as a value holds it: for IPv4 four octets, for IPv6 sixteen
abbrev pub IsIp : Ip → Type 0
IsIp (V4 octets) = (length octets ≡ 4) × All (λ octet. octet < 2 ^ 8) octets
IsIp (V6 octets) = (length octets ≡ 16) × All (λ octet. octet < 2 ^ 8) octets

-- an address as a value holds it: its port has 16 bits
pub record IsAddr (a : Addr) : Type 0 where
  pub ip : IsIp a.ip
  pub port : a.port < 2 ^ 16

-- two addresses are of one family and have the same octets
abbrev pub same_ip : Ip → Ip → Bool
same_ip (V4 these) (V4 those) = bytes_eq these those
same_ip (V6 these) (V6 those) = bytes_eq these those
same_ip (V4 these) (V6 those) = false
same_ip (V6 these) (V4 those) = false

-- two addresses are the same IP address and the same port
abbrev pub same_addr : Addr → Addr → Bool
same_addr one other = same_ip one.ip other.ip && (one.port == other.port)

-- how many bits an address of this family has
abbrev pub bits_of : Ip → ℕ
bits_of (V4 octets) = 32
bits_of (V6 octets) = 128

-- two addresses are of one family
abbrev pub same_family : Ip → Ip → Bool
same_family one other = bits_of one == bits_of other

-- the address as a number: its first octet is the highest
unfoldable pub number_of : Ip → ℕ
number_of (V4 octets) = from_be_bytes w32 octets
number_of (V6 octets) = from_be_bytes w128 octets
