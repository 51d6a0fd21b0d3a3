use Rattle.std.proofs.Common.{arith, length, ap, ◌∙◌}
use Rattle.std.specs.Prelude.{unwrap_or}
use Rattle.fixed_time.proofs.OrderLemmas.{first_within}
use Rattle.net_addr.specs.Addresses.{same_addr}
use Rattle.associations.proofs.peers.find_place.Goals as goal

pub returns-clause-within : goal.returns-clause-within
returns-clause-within c =
    let list = c.args.list.now in
    let within = first_within (λ p. same_addr p.line.addr c.args.from.now) list in
    omega (arith, within, c.unwrap_or.ensures ∙ ap (λ found. unwrap_or found (length list)) c.find_line.ensures)
