use Rattle.ntpd_serve.proofs.OpeningLemmas.{reply_to-Arrive}
use Rattle.ntpd_serve.proofs.laws.each_request_is_served.Goals as goal

pub returns : goal.returns
returns g c = reply_to-Arrive c.args.origin g.server c.args.ask.now c.args.came c.requires
