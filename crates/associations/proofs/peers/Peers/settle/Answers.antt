use Rattle.std.proofs.Common.{◌≡◌, ◌++◌, length, take, drop, sym, ◌∙◌, arith, take_all}
use Rattle.std.proofs.lemmas.List.{take-append-le}
use Rattle.associations.proofs.peers.Peers.settle.Goals as goal

-- what is written back is the list in which the servers were settled
pub returns-clause-settled : goal.returns-clause-settled
returns-clause-settled c =
    let list = c.self.inside.list in
    let new = c.settle_all.new.list in
    let count : length new ≡ list.len = c.settle_all.auto.list ∙ c.deref_mut.ensures.len in
    let was : c.deref_mut.result.now ≡ c.args.self.now = c.deref_mut.ensures.value ∙ c.self.view_is in
    let written : take list.len (new ++ drop (length new) list.items) ≡ new =
    take-append-le list.len new (drop (length new) list.items) (omega (arith, count)) ∙ take_all list.len new (omega (arith, count)) in
    rw (sym was, written) c.settle_all.ensures.settled
