use Rattle.std.proofs.Common.{◌≡◌, ◌≤◌, ◌-◌, length}
use Rattle.edge_traits.specs.Reads.{preceded}
use Rattle.edge_traits.proofs.source.read_whole.Given as goal

-- the octets are those that came before what is still to come
abbrev pub invariant-loop-octets : goal.invariant-loop-octets
invariant-loop-octets g l = record {
  within : length l.octets.items ≤ l.most;
  told : g.S.Source.rest l.initial.source ≡ preceded l.octets.items (g.S.Source.rest l.source);
  kept : g.S.Source.faults l.initial.source ≤ g.S.Source.faults l.source;
}

abbrev pub decreases-loop-octets : goal.decreases-loop-octets
decreases-loop-octets g l = l.most - length l.octets.items
