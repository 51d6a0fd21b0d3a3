-- How the text of an address is read from its front: an IP address, a colon and a port.
use Rattle.std.specs.Prelude.{ℕ, ◌^◌, ◌&&◌, nat_lt, if◌then◌else◌, bytes_eq, decimal, List, Option, Some, None, option_and_then}
use Rattle.std.specs.Str.Parse.{digits_value}
use Rattle.std.specs.Net.Addr.{octets_of}
use Rattle.std.specs.Net.Reader.{Read, colon, left_bracket, right_bracket, read_byte, read_ipv4, read_ipv6}
use Rattle.net_addr.specs.declared.addr.Addr.{Addr}
use Rattle.net_addr.specs.declared.addr.Ip.{Ip}
use Rattle.net_addr.specs.declared.addr.Ip.TheVariants.{V4, V6}

infixl 10 ◌>>=◌
abbrev ◌>>=◌ : {A B : Type 0} → Option A → (A → Option B) → Option B
o >>= f = option_and_then f o

-- the number of 16 bits that the digits write in decimal, without leading zeros
abbrev pub port_in : List ℕ → Option ℕ
port_in digits =
    let port = digits_value 10 digits in
    if nat_lt port (2 ^ 16) && bytes_eq digits (decimal port) then Some port else None

-- the IPv6 address in brackets at the front of a text, its octets two of each group, and the text after it
abbrev pub bracketed_in : List ℕ → Read Ip
bracketed_in text = do
  inner ← read_byte left_bracket text
  groups ← read_ipv6 inner
  rest ← read_byte right_bracket groups.1
  Some (V6 (octets_of groups.0), rest)

-- what was read of an IPv4 address, or else this
abbrev pub v4_or : Read Ip → Read (List ℕ) → Read Ip
v4_or other None = other
v4_or other (Some octets) = Some (V4 octets.0, octets.1)

-- the IP address at the front of a text, as it stands before a port, and the text after it
unfoldable pub host_in : List ℕ → Read Ip
host_in text = v4_or (bracketed_in text) (read_ipv4 text)

-- the address that a text spells with its port, if it spells one
unfoldable pub addr_in : List ℕ → Option Addr
addr_in text = do
  host ← host_in text
  digits ← read_byte colon host.1
  port ← port_in digits
  Some (record { ip = host.0; port = port })
