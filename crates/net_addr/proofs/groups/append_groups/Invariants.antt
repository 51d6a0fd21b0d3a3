use Rattle.std.proofs.Common.{◌≡◌, ◌+◌, ◌*◌, ◌≤◌, ◌++◌, ◌∷◌, get_or, take, length}
use Rattle.std.specs.Net.Text.{groups_text}
use Rattle.net_addr.proofs.groups.append_groups.Given as goal

-- the groups so far stand in the text
abbrev pub invariant-loop-group : goal.invariant-loop-group
invariant-loop-group l = record {
  text : l.text ≡ l.fn.text ++ groups_text (get_or l.groups 0 0 ∷ take l.group-index l.rest);
  grows : length l.text ≤ length l.fn.text + 4 + 5 * l.group-index;
}
