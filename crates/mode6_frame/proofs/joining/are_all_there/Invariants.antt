use Rattle.std.proofs.Common.{◌*◌, ◌≤◌, List, ℕ}
use Rattle.mode6_frame.proofs.JoinLemmas.{IsJoining}
use Rattle.mode6_frame.proofs.joining.are_all_there.Given as goal

-- what is joined from this place on, behind some text, is what is joined from the first place on
abbrev pub invariant-loop-done : goal.invariant-loop-done
invariant-loop-done l = record {
  joining : (text : List ℕ) × IsJoining l.pieces text l._done l.place;
  bounded : l.place ≤ l._done * 18446744073709551615;
}
