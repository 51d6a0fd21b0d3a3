use Rattle.std.proofs.Common.{◌≤◌}
use Rattle.mode6_frame.specs.Items.{AreWhite}
use Rattle.mode6_frame.specs.ItemReader.{part}
use Rattle.mode6_frame.proofs.item_text.trimmed.Given as goal

abbrev pub invariant-loop-cut : goal.invariant-loop-cut
invariant-loop-cut l = record {
  begun : l.begin ≤ l.cut;
  within : l.cut ≤ l.end;
  white : AreWhite (part l.text l.cut l.end);
}

abbrev pub decreases-loop-cut : goal.decreases-loop-cut
decreases-loop-cut l = l.cut
