-- The giving of datagrams at a port: our own words.
use Rattle.std.specs.Prelude.{ℕ, List, map}
use Rattle.net_addr.specs.declared.addr.Addr.{Addr}
use Rattle.edge_traits.specs.declared.port.Event.{Event}
use Rattle.edge_traits.specs.declared.port.Event.TheVariants.{Sent}

-- the gives of these datagrams to this address, in their order
abbrev pub sent_events : Addr → List (List ℕ) → List Event
sent_events to grams = map (λ gram. Sent to gram) grams
