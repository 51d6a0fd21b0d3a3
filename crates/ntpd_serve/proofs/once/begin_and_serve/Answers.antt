use Rattle.std.proofs.Common.{[]}
use Rattle.giving.proofs.GiveLemmas.{gained-nothing}
use Rattle.ntpd_serve.proofs.OnceLemmas.{Grows-nothing, Happens-no_memory}
use Rattle.ntpd_serve.proofs.once.begin_and_serve.Goals as goal

pub returns-in-Err-clause-happens : goal.returns-in-Err-clause-happens
returns-in-Err-clause-happens g c = ([], [], Happens-no_memory c.args.common.now, gained-nothing _, Grows-nothing _)
