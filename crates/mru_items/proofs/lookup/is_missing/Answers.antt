use Rattle.std.proofs.Common.{arith}
use Rattle.std.proofs.lemmas.Bool.Decides.{nat_tests}
use Rattle.mru_items.proofs.NameLemmas.{missing-is, no_item}
use Rattle.mru_items.proofs.lookup.is_missing.Goals as goal

pub returns : goal.returns
returns c = (
  λ missing. c.next_named.ensures.none (grind (arith, nat_tests)),
  λ none. rw c.len.ensures (missing-is _ _ _ _ _ _ c.next_named.ensures.within c.next_named.ensures.skipped (c.next_named.ensures.named no_item) none),
)
