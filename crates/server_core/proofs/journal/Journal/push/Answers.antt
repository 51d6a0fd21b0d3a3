use Rattle.std.proofs.Common.{arith}
use Rattle.server_core.proofs.JournalLemmas.{IsIndexed-pushed, publications-at_most}
use Rattle.server_core.proofs.journal.Journal.push.Goals as goal

pub index_with-self-inside-requires : goal.index_with-self-inside-requires
index_with-self-inside-requires c = publications-at_most _ _ _ c.self.invariant.0 c.self.view_is c.requires.is_open

pub invariant_of-self : goal.invariant_of-self
invariant_of-self c = (
  IsIndexed-pushed _ _ _ _ c.args.op _ _ c.self.invariant.0 c.self.view_is c.requires c.index_with-self-inside.ensures c.push_reserved.ensures.items c.len-place.ensures,
  omega (arith, c.push_reserved.ensures.capacity, c.self.invariant.1),
)
