use Rattle.std.proofs.Common.{arith}
use Rattle.recency.proofs.SweepLemmas.{AreRows-left}
use Rattle.recency.proofs.plain_list.PlainListRecency.sweep.Goals as goal

pub invariant_of-self : goal.invariant_of-self
invariant_of-self g c = (
  AreRows-left c.self.inside.limits c.self.inside.rows.items c.deref.result.now c.args.moment c.aged-gone.result c.drop_front.new.rows.items c.deref.ensures.value c.aged-gone.ensures.left
      c.drop_front.ensures.items c.self.invariant.0,
  omega (arith, c.self.invariant.1, c.drop_front.ensures.capacity),
)

pub returns-clause-kept : goal.returns-clause-kept
returns-clause-kept g c =
    AreRows-left c.self.inside.limits c.self.inside.rows.items c.deref.result.now c.args.moment c.aged-gone.result c.drop_front.new.rows.items c.deref.ensures.value c.aged-gone.ensures.left
    c.drop_front.ensures.items c.self.invariant.0
