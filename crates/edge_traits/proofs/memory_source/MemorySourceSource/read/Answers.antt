use Rattle.std.proofs.Common.{◌≡◌, ◌+◌, ◌-◌, Some, take, drop, ap, ◌∙◌, arith, length-take}
use Rattle.edge_traits.proofs.ReadLemmas.{drop-copied}
use Rattle.edge_traits.proofs.memory_source.MemorySourceSource.read.Goals as goal

pub returns-clause-told : goal.returns-clause-told
returns-clause-told c =
    let self = c.args.self.now in
    let n = c.min-count.result in
    let width : self.given + n - self.given ≡ n = omega arith in
    let copied = c.copy_from_slice.ensures.after ∙ ap (λ k. take k (drop self.given c.deref.result.now)) width ∙ ap (λ xs. take n (drop self.given xs)) c.deref.ensures.value in
    ap Some
    (drop-copied self.given n self.octets.items c.copy_from_slice.new.self _ copied
    (omega (arith, length-take n c.args.into.now, c.copy_from_slice.ensures.len, c.min-count.ensures)))
