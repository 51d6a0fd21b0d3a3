use Rattle.std.proofs.Common.{◌*◌, ◌≤◌}
use Rattle.mode6_frame.proofs.JoinLemmas.{IsJoining}
use Rattle.mode6_frame.proofs.joining.join.Given as goal

-- what is joined from this place on, behind the text so far, is what is joined from the first place on
abbrev pub invariant-loop-done : goal.invariant-loop-done
invariant-loop-done l = record {
  joining : IsJoining l.pieces l.text.items l._done l.place;
  bounded : l.place ≤ l._done * 18446744073709551615;
}
