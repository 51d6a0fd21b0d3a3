-- What stands at the place of an operation in a history.
use Rattle.std.proofs.Common.{◌≡◌, Some, List, [], ◌∷◌, ◌++◌, length, slice_get, refl}
use Rattle.server_core.specs.Histories.{state_after_all, state_at}
use Rattle.server_core.specs.Moves.{move_of, moves_of}
use Rattle.server_core.specs.States.{ServerState, state_after}
use Rattle.server_core.specs.declared.op.Op.{Op}

-- the operation
pub op-place : (before after : List Op) (op : Op) → slice_get (before ++ op ∷ after) (length before) ≡ Some op
op-place [] after op = refl
op-place (first ∷ before) after op = op-place before after op

-- the server that those before it make
pub state-place : (s : ServerState) (before after : List Op) (op : Op) → state_at s (before ++ op ∷ after) (length before) ≡ state_after_all s before
state-place s [] after op = refl
state-place s (first ∷ before) after op = state-place (state_after s first) before after op

-- and what it is to the client list of that server
pub move-place : (s : ServerState) (before after : List Op) (op : Op) → slice_get (moves_of s (before ++ op ∷ after)) (length before) ≡ Some (move_of (state_after_all s before) op)
move-place s [] after op = refl
move-place s (first ∷ before) after op = move-place (state_after s first) before after op
