use Rattle.std.proofs.Common.{◌≡◌, ◌++◌, drop, map, take}
use Rattle.std.specs.List.{All}
use Rattle.associations.specs.Associations.{IsAssociation}
use Rattle.associations.specs.Settling.{forgotten}
use Rattle.associations.proofs.settling.forget_all.Given as goal

-- the servers before this one have forgotten, and the others are as they were
abbrev pub invariant-loop-server : goal.invariant-loop-server
invariant-loop-server l = record {
  so_far : l.list ≡ map forgotten (take l.server-index l.initial.list) ++ drop l.server-index l.initial.list;
  sound : All IsAssociation l.initial.list → All IsAssociation l.list;
}
