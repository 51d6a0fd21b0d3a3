use Rattle.std.proofs.Common.{◌≡◌, ◌∙◌}
use Rattle.net_addr.specs.contracts.addr.IpPartialEq.TheImpl.{eq-value}
use Rattle.recency_links.proofs.NumberLemmas.{eq-same, lookup-number}
use Rattle.recency_links.proofs.index.number_of.Goals as goal

pub returns : goal.returns
returns c = c.copied.ensures ∙ c.get.ensures.value ∙ lookup-number eq-value.it eq-same c.args.index.now.entries c.args.ip.now
