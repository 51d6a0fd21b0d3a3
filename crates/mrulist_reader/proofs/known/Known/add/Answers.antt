use Rattle.std.proofs.Common.{◌≡◌, ◌||◌, subst, sym}
use Rattle.mrulist_reader.specs.Knowing.{knows}
use Rattle.mrulist_reader.proofs.KnownLemmas.{knows-added_v4, knows-added_v6}
use Rattle.net_addr.specs.Addresses.{same_ip}
use Rattle.net_addr.specs.declared.addr.Ip.{Ip}
use Rattle.mrulist_reader.proofs.known.Known.add.Goals as goal

pub returns-in-Ok-clause-added : goal.returns-in-Ok-clause-added
returns-in-Ok-clause-added c other =
    subst (λ (ip : Ip). knows (record c.args.self.now { v4 = c.insert.new.self }) other ≡ (same_ip other ip || knows c.args.self.now other)) (sym c.in-V4.is)
    (knows-added_v4 c.args.self.now c.insert.new.self c.in-V4.octets c.in-Ok.ensures.updates other)

pub returns-in-Ok-insert-clause-added : goal.returns-in-Ok-insert-clause-added
returns-in-Ok-insert-clause-added c other =
    subst (λ (ip : Ip). knows (record c.args.self.now { v6 = c.insert-in-V6.new.self }) other ≡ (same_ip other ip || knows c.args.self.now other)) (sym c.in-V6.is)
    (knows-added_v6 c.args.self.now c.insert-in-V6.new.self c.in-V6.octets c.in-Ok-insert.ensures.updates other)
