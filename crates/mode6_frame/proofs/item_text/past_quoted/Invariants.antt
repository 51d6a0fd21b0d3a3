use Rattle.std.proofs.Common.{◌≡◌, ◌+◌, ◌-◌, ◌≤◌, length, drop}
use Rattle.std.specs.List.{prefix_len}
use Rattle.mode6_frame.specs.Items.{is_quoted_octet}
use Rattle.mode6_frame.proofs.item_text.past_quoted.Given as goal

abbrev pub invariant-loop-end : goal.invariant-loop-end
invariant-loop-end l = record {
  within : l.end ≤ length l.text;
  same : l.end + prefix_len is_quoted_octet (drop l.end l.text) ≡ l.at + prefix_len is_quoted_octet (drop l.at l.text);
}

abbrev pub decreases-loop-end : goal.decreases-loop-end
decreases-loop-end l = length l.text - l.end
