use Rattle.std.proofs.Common.{◌≡◌, drop}
use Rattle.mode6_frame.specs.Groups.{piece_at}
use Rattle.mode6_frame.proofs.joining.find_piece.Given as goal

-- the rest decides
abbrev pub invariant-loop-i : goal.invariant-loop-i
invariant-loop-i l = piece_at l.place (drop l.i l.pieces) ≡ piece_at l.place l.pieces
