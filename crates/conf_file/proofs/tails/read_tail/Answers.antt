use Rattle.conf_file.specs.declared.kinds.Kind.TheVariants.{Listen, Server, Restrict, Limit, Mru, Keys, Local, Frequency}
use Rattle.conf_file.proofs.TailLemmas.{tail_placed, tail_read}
use Rattle.conf_file.proofs.tails.read_tail.Goals as goal

pub returns-in-Listen : goal.returns-in-Listen
returns-in-Listen c = tail_placed c.args.kind Listen _ c.listen_line.result c.told.result c.in-Listen.is c.told.ensures c.listen_line.ensures

pub returns-in-Server : goal.returns-in-Server
returns-in-Server c = tail_placed c.args.kind Server _ c.server_line.result c.told-in-Server.result c.in-Server.is c.told-in-Server.ensures c.server_line.ensures

pub returns-in-Restrict : goal.returns-in-Restrict
returns-in-Restrict c = tail_placed c.args.kind Restrict _ c.restrict_line.result c.told-in-Restrict.result c.in-Restrict.is c.told-in-Restrict.ensures c.restrict_line.ensures

pub returns-in-Limit : goal.returns-in-Limit
returns-in-Limit c = tail_placed c.args.kind Limit _ c.limit_line.result c.told-in-Limit.result c.in-Limit.is c.told-in-Limit.ensures c.limit_line.ensures

pub returns-in-Mru : goal.returns-in-Mru
returns-in-Mru c = tail_placed c.args.kind Mru _ c.mru_line.result c.told-in-Mru.result c.in-Mru.is c.told-in-Mru.ensures c.mru_line.ensures

pub returns-in-Local : goal.returns-in-Local
returns-in-Local c = tail_placed c.args.kind Local _ c.local_line.result c.told-in-Local.result c.in-Local.is c.told-in-Local.ensures c.local_line.ensures

pub returns-in-Frequency : goal.returns-in-Frequency
returns-in-Frequency c = tail_placed c.args.kind Frequency _ c.frequency_line.result c.told-in-Frequency.result c.in-Frequency.is c.told-in-Frequency.ensures c.frequency_line.ensures

pub returns-in-Keys : goal.returns-in-Keys
returns-in-Keys c = tail_read c.args.kind Keys _ c.keys_line.result c.in-Keys.is c.keys_line.ensures
