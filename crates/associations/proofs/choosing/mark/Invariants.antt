use Rattle.std.proofs.Common.{◌≡◌, ◌++◌, ℕ, drop, map, take}
use Rattle.std.specs.List.{All}
use Rattle.associations.specs.Associations.{IsAssociation}
use Rattle.associations.specs.Candidates.{numbered}
use Rattle.associations.specs.Marks.{marked_one}
use Rattle.associations.specs.declared.association.Association.{Association}
use Rattle.associations.proofs.choosing.mark.Given as goal

-- the servers before this place are marked, and the others are as they were
abbrev pub invariant-loop-place : goal.invariant-loop-place
invariant-loop-place l = record {
  so_far : l.list
      ≡ map (λ (np : ℕ × Association). marked_one l.choice l.moment np.0 np.1) (take l.place (numbered l.initial.list)) ++ drop l.place l.initial.list;
  sound : All IsAssociation l.initial.list → All IsAssociation l.list;
}
