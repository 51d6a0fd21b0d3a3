use Rattle.std.proofs.Common.{◌++◌, [], ap, arith}
use Rattle.std.specs.Option.{is_some}
use Rattle.mode6_frame.proofs.JoinLemmas.{IsJoining-first, IsJoining-next, joined-last, joined-missing, joined-none}
use Rattle.mode6_frame.proofs.joining.are_all_there.Goals as goal

pub loop-done-init : goal.loop-done-init
loop-done-init c = record { joining = ([], IsJoining-first c.args.pieces.now); bounded = omega arith }

pub returns-in-None : goal.returns-in-None
returns-in-None c =
    ap is_some (joined-missing c.args.pieces.now c.loop-done.invariant.joining.0 c.loop-done._done c.loop-done.place c.loop-done.invariant.joining.1 c.loop-done-test.true c.in-None.ensures)

pub returns-then-not-piece : goal.returns-then-not-piece
returns-then-not-piece c =
    ap is_some (joined-last c.args.pieces.now c.loop-done.invariant.joining.0 c.loop-done._done c.loop-done.place c.in-Some.piece.now c.loop-done.invariant.joining.1 c.loop-done-test.true c.in-Some.ensures c.if-not-piece.true)

pub loop-done-preserved : goal.loop-done-preserved
loop-done-preserved c = record {
  joining = (
    c.loop-done.invariant.joining.0 ++ c.in-Some.piece.now.text,
    IsJoining-next c.args.pieces.now c.loop-done.invariant.joining.0 c.loop-done._done c.loop-done.place c.in-Some.piece.now c.loop-done.invariant.joining.1 c.loop-done-test.true c.in-Some.ensures c.if-not-piece.false,
  );
  bounded = omega arith;
}

pub returns : goal.returns
returns c = ap is_some (joined-none c.args.pieces.now c.loop-done.invariant.joining.0 c.loop-done._done c.loop-done.place c.loop-done.invariant.joining.1 (omega arith))
