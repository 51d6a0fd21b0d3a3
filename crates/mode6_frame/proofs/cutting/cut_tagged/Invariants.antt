use Rattle.std.proofs.Common.{◌≡◌, ◌+◌, ◌≤◌, ◌++◌, length, drop}
use Rattle.mode6_frame.specs.declared.message.TheConstants.{MAX_BODY}
use Rattle.mode6_frame.specs.Cuts.{TAG_ITEM_LEN, laid, octets_in, runs_after}
use Rattle.mode6_frame.specs.Drafts.{parts_after, grams_of}
use Rattle.mode6_frame.proofs.cutting.cut_tagged.Given as goal

abbrev pub invariant-loop-i : goal.invariant-loop-i
invariant-loop-i l = record {
  grams : l.draft.grams.items ++ grams_of l.head (parts_after l.tag l.draft.offset l.draft.body (drop l.i l.items))
      ≡ grams_of l.head (laid l.tag 0 (runs_after TAG_ITEM_LEN l.items));
  octets : l.draft.offset + octets_in (parts_after l.tag l.draft.offset l.draft.body (drop l.i l.items))
      ≡ octets_in (laid l.tag 0 (runs_after TAG_ITEM_LEN l.items));
  room : length l.draft.body + 3 ≤ MAX_BODY;
}
