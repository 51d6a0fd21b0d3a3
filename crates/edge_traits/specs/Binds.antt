-- What a host binds: our own words.
use Rattle.std.specs.Prelude.{Result, Ok, Err, List, [], ◌∷◌}
use Rattle.net_addr.specs.declared.addr.Addr.{Addr}
use Rattle.edge_traits.specs.declared.host.HostFault.{HostFault}

-- the addresses that one bind adds
abbrev pub bound : {P : Type 0} → Result P HostFault → Addr → List Addr
bound (Ok port) at = at ∷ []
bound (Err fault) at = []
