use Rattle.std.proofs.Common.{◌≡◌, map, take}
use Rattle.std.specs.List.{All}
use Rattle.associations.specs.Associations.{IsAssociation, opened}
use Rattle.associations.proofs.peers.Peers.of.Given as goal

-- the lines before this one have their associations
abbrev pub invariant-loop-line : goal.invariant-loop-line
invariant-loop-line l = record {
  opened_so_far : l.list.items ≡ map opened (take l.line-index l.lines);
  sound : All IsAssociation l.list.items;
}
