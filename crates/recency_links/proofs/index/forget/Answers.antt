use Rattle.std.proofs.Common.{None}
use Rattle.net_addr.specs.contracts.addr.IpPartialEq.TheImpl.{eq-value}
use Rattle.recency_links.proofs.NumberLemmas.{eq-same, number_at-update}
use Rattle.recency_links.proofs.index.forget.Goals as goal

pub returns : goal.returns
returns c = number_at-update eq-value.it eq-same c.args.index.now.entries c.swap_remove.new.self.entries c.args.ip.now None c.swap_remove.ensures.updates.0
