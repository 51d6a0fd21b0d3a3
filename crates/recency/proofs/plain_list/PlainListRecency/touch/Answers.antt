use Rattle.std.proofs.Common.{arith}
use Rattle.recency.proofs.ClientLemmas.{IsTouched-client}
use Rattle.recency.proofs.TouchLemmas.{AreRows-IsTouched}
use Rattle.recency.proofs.plain_list.PlainListRecency.touch.Goals as goal

pub invariant_of-self : goal.invariant_of-self
invariant_of-self g c = (
  AreRows-IsTouched c.args.self.now c.self.inside.limits c.self.inside.rows.items c.args.visit.now c.args.stamp c.arrive.result c.arrive.new.rows.items c.self.view_is c.self.inside.limits.depths c.self.invariant.0
      c.requires c.arrive.ensures.touched,
  omega (arith, c.self.invariant.1, c.arrive.ensures.capacity),
)

pub returns-clause-kept : goal.returns-clause-kept
returns-clause-kept g c =
    AreRows-IsTouched c.args.self.now c.self.inside.limits c.self.inside.rows.items c.args.visit.now c.args.stamp c.arrive.result c.arrive.new.rows.items c.self.view_is c.self.inside.limits.depths c.self.invariant.0
    c.requires c.arrive.ensures.touched

pub returns-clause-client : goal.returns-clause-client
returns-clause-client g c =
    (IsTouched-client c.self.inside.limits c.self.inside.rows.items c.args.visit.now c.args.stamp c.arrive.result c.arrive.new.rows.items c.arrive.ensures.touched).row

pub returns-clause-untracked : goal.returns-clause-untracked
returns-clause-untracked g c =
    (IsTouched-client c.self.inside.limits c.self.inside.rows.items c.args.visit.now c.args.stamp c.arrive.result c.arrive.new.rows.items c.arrive.ensures.touched).untracked
