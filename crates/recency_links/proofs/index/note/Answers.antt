use Rattle.std.proofs.Common.{Some}
use Rattle.net_addr.specs.contracts.addr.IpPartialEq.TheImpl.{eq-value}
use Rattle.recency_links.proofs.NumberLemmas.{eq-same, number_at-update}
use Rattle.recency_links.proofs.index.note.Goals as goal

pub returns-in-Ok-clause-noted : goal.returns-in-Ok-clause-noted
returns-in-Ok-clause-noted c = number_at-update eq-value.it eq-same c.args.index.now.entries c.insert.new.self.entries c.args.ip (Some c.args.number) c.in-Ok.ensures.updates.0
