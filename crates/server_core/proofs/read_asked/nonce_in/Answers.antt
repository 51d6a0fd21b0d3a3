use Rattle.std.proofs.Common.{◌≡◌, true, codes, arith, sym, ◌∙◌}
use Rattle.std.specs.Prelude.{bytes_eq}
use Rattle.server_core.proofs.ReadLemmas.{nonce_in-here}
use Rattle.server_core.proofs.read_asked.nonce_in.Goals as goal

pub returns-then-eq : goal.returns-then-eq
returns-then-eq c =
    let name : bytes_eq c.get-item.result.now.name (codes "nonce") ≡ true = cc in
    c.as_ref.ensures.value ∙ sym (nonce_in-here c.args.items.now c.loop-i.i c.get-item.result.now c.loop-i.invariant (omega (arith, c.loop-i-test.true, c.len-i-end.ensures)) c.get-item.ensures name)
