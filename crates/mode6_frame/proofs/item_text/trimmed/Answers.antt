use Rattle.std.proofs.Common.{sym, ◌∙◌, arith}
use Rattle.mode6_frame.proofs.PartLemmas.{AreWhite-before}
use Rattle.mode6_frame.proofs.item_text.trimmed.Goals as goal

pub loop-cut-preserved : goal.loop-cut-preserved
loop-cut-preserved c =
    let some = c.loop-cut-test.true in
    let within = c.loop-cut.invariant.within in
    record {
      begun = omega arith;
      within = omega arith;
      white = AreWhite-before c.args.text.now c.loop-cut.cut c.args.end (omega arith) within c.requires.within
          (sym c.is_white_octet.ensures ∙ c.if-is_white_octet.true) c.loop-cut.invariant.white;
    }
