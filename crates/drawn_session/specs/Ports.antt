-- A port at which comes what a number draws: our own words.
use Rattle.std.specs.Prelude.{◌≡◌, ℕ, ◌≤◌, ◌<◌, ◌^◌, nat_le, Bool, Option, Some, List, [], ◌∷◌, length, map, take}
use Rattle.std.specs.Int.{to_be_bytes, w64}
use Rattle.std.specs.List.{filter}
use Rattle.edge_traits.specs.declared.octets.TheConstants.{MAX_OCTETS}
use Rattle.edge_traits.specs.declared.port.Event.{Event}
use Rattle.net_addr.specs.declared.addr.Addr.{Addr}
use Rattle.net_addr.specs.declared.addr.Ip.TheVariants.{V6}
use Rattle.worker.specs.Doings.{silences_in}
use Rattle.drawn_session.specs.Datagrams.{datagrams_for, is_take, took_of}

-- a port: the number by which it draws, its host, how many datagrams were taken, and what happened
pub record PortParts : Type 0 where
  pub number : ℕ
  pub host : ℕ
  pub found : ℕ
  pub events : List Event

-- The address of a host at which comes what a number draws for it: one of the local network fd00::/64 (RFC 4193, section 3)
-- with the number as interface, and the host as port. So the address of a port says what comes there.
abbrev pub host_addr : ℕ → ℕ → Addr
host_addr number host = record { ip = V6 (0xfd ∷ 0 ∷ 0 ∷ 0 ∷ 0 ∷ 0 ∷ 0 ∷ 0 ∷ to_be_bytes w64 number); port = host }

-- what a port tells of itself
abbrev pub trace_of : PortParts → Option (List Event)
trace_of p = Some p.events

abbrev pub faults_of : PortParts → ℕ
faults_of p = 0

abbrev pub quiets_of : PortParts → ℕ
quiets_of p = 0

abbrev pub is_closed_of : PortParts → Bool
is_closed_of p = nat_le (length (datagrams_for p.number p.host)) p.found

abbrev pub address_of : PortParts → Addr
address_of p = host_addr p.number p.host

abbrev pub most_of : PortParts → ℕ
most_of p = MAX_OCTETS

-- a port that was not called yet
abbrev pub new_port : ℕ → ℕ → PortParts
new_port number host = record { number = number; host = host; found = 0; events = [] }

-- the takes at a port found the first of the datagrams that its number draws for its host, in their order, and were never
-- in vain
pub record IsDrawnPort (p : PortParts) : Type 0 where
  pub fits : p.number < 2 ^ 64
  pub within : p.found ≤ length (datagrams_for p.number p.host)
  pub took : filter is_take p.events ≡ map took_of (take p.found (datagrams_for p.number p.host))
  pub unsilent : silences_in p.events ≡ 0
