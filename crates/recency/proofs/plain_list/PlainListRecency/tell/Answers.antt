use Rattle.recency.proofs.RowLemmas.{AreRows-told}
use Rattle.recency.proofs.plain_list.PlainListRecency.tell.Goals as goal

pub invariant_of-self : goal.invariant_of-self
invariant_of-self c =
    let kept = AreRows-told c.self.inside.limits c.self.inside.rows.items c.args.ip.now c.args.stamp c.self.invariant.0 in
    rw (c.tell_in.ensures.items, c.tell_in.ensures.capacity) (kept, c.self.invariant.1)

pub returns-clause-kept : goal.returns-clause-kept
returns-clause-kept c =
    rw (c.tell_in.ensures.items) (AreRows-told c.self.inside.limits c.self.inside.rows.items c.args.ip.now c.args.stamp c.self.invariant.0)
