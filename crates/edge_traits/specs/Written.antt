-- What one write takes of the octets that it is lent: our own words.
use Rattle.std.specs.Prelude.{ℕ, Result, Ok, Err, List, [], take}
use Rattle.edge_traits.specs.declared.sink.SinkFault.{SinkFault}

-- the octets that the write took
abbrev pub written : Result ℕ SinkFault → List ℕ → List ℕ
written (Ok n) octets = take n octets
written (Err fault) octets = []
