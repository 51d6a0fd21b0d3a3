use Rattle.std.proofs.Common.{◌+◌, ◌++◌, ℕ, List, Some, ap, subst, sym, ◌∙◌, arith}
use Rattle.mode6_frame.proofs.JoinLemmas.{IsJoining, IsJoining-next, joined-last, joined-missing, joined-none}
use Rattle.mode6_frame.proofs.joining.join.Goals as goal

pub returns-in-None : goal.returns-in-None
returns-in-None c =
    joined-missing c.args.pieces.now c.loop-done.text.items c.loop-done._done c.loop-done.place c.loop-done.invariant.joining c.loop-done-test.true c.in-None.ensures

pub returns-then-not-piece : goal.returns-then-not-piece
returns-then-not-piece c =
    let text = c.of.ensures ∙ c.in_ok-extend_from_slice-in-Some.ensures.items ∙ ap (λ (xs : List ℕ). c.loop-done.text.items ++ xs) c.as_slice.ensures.value in
    ap Some text
    ∙ joined-last c.args.pieces.now c.loop-done.text.items c.loop-done._done c.loop-done.place c.in-Some.piece.now c.loop-done.invariant.joining c.loop-done-test.true c.in-Some.ensures c.if-not-piece.true

pub loop-done-preserved : goal.loop-done-preserved
loop-done-preserved c =
    let text = c.in_ok-extend_from_slice-in-Some.ensures.items ∙ ap (λ (xs : List ℕ). c.loop-done.text.items ++ xs) c.as_slice.ensures.value in
    let P : List ℕ → Type 0 = λ xs. IsJoining c.args.pieces.now xs (c.loop-done._done + 1) (c.loop-done.place + c.in-Some.piece.now.span) in
    record {
      joining = subst P (sym text)
          (IsJoining-next c.args.pieces.now c.loop-done.text.items c.loop-done._done c.loop-done.place c.in-Some.piece.now c.loop-done.invariant.joining c.loop-done-test.true c.in-Some.ensures c.if-not-piece.false);
      bounded = omega arith;
    }

pub returns : goal.returns
returns c = joined-none c.args.pieces.now c.loop-done.text.items c.loop-done._done c.loop-done.place c.loop-done.invariant.joining (omega arith)
