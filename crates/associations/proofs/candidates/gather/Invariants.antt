use Rattle.std.proofs.Common.{◌≡◌, ◌≤◌, ℕ, take}
use Rattle.arrayvec.specs.ArrayVec.{array_vec_len}
use Rattle.std.specs.List.{filter_map}
use Rattle.associations.specs.Candidates.{candidate_of, numbered}
use Rattle.associations.specs.declared.association.Association.{Association}
use Rattle.associations.proofs.candidates.gather.Given as goal

-- the candidates among the servers before this place
abbrev pub invariant-loop-place : goal.invariant-loop-place
invariant-loop-place l = record {
  so_far : l.candidates.items ≡ filter_map (λ (np : ℕ × Association). candidate_of l.moment np.0 np.1) (take l.place (numbered l.list));
  few : array_vec_len l.candidates ≤ l.place;
}
