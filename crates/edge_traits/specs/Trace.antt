-- What happens at a port: our own words.
use Rattle.std.specs.Prelude.{ℕ, Result, Ok, Err, List, [], ◌∷◌}
use Rattle.net_addr.specs.declared.addr.Addr.{Addr}
use Rattle.edge_traits.specs.declared.port.Event.{Event}
use Rattle.edge_traits.specs.declared.port.Event.TheVariants.{Took, Silence, Sent}
use Rattle.edge_traits.specs.declared.port.Taken.{Taken}
use Rattle.edge_traits.specs.declared.port.Taken.TheVariants.{Datagram, Quiet, Closed}
use Rattle.edge_traits.specs.declared.port.PortFault.{PortFault}

-- the events of one take, which left these octets
abbrev pub taken_events : Result Taken PortFault → List ℕ → List Event
taken_events (Ok (Datagram from)) octets = Took from octets ∷ []
taken_events (Ok Quiet) octets = Silence ∷ []
taken_events (Ok Closed) octets = []
taken_events (Err fault) octets = []

-- the events of one give of these octets
abbrev pub given_events : Result (Unit {0}) PortFault → Addr → List ℕ → List Event
given_events (Ok done) to octets = Sent to octets ∷ []
given_events (Err fault) to octets = []
