use Rattle.ntpd_serve.proofs.OpeningLemmas.{reply_to-Look}
use Rattle.ntpd_serve.proofs.laws.each_control_request_is_answered.Goals as goal

pub returns : goal.returns
returns g c = reply_to-Look c.args.origin g.server c.args.asked.now c.args.context.now c.requires
