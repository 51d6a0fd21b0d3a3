use Rattle.server_core.proofs.ClassLemmas.{only_time, only_unreadable, silent_unreadable}
use Rattle.server_core.proofs.classing.classify_client.Goals as goal

pub returns-in-Err-clause-found : goal.returns-in-Err-clause-found
returns-in-Err-clause-found c context =
    silent_unreadable _ c.args.from.now c.args.keys.now context c.in-Err.fault _ c.unheard_by.ensures c.requires.mode c.in-Err.ensures.refused

pub returns-in-Err-clause-only : goal.returns-in-Err-clause-only
returns-in-Err-clause-only c context =
    only_unreadable _ _ _ context c.in-Err.fault _ c.unheard_by.ensures c.requires.mode
    (λ other refused. let one = c.in-Err.ensures.due other refused in cc)
    (λ judged is. let none = c.in-Err.ensures.only judged is in absurd cc)

pub returns-in-Ok-clause-found : goal.returns-in-Ok-clause-found
returns-in-Ok-clause-found c context = record {
  judged = c.in-Ok.judged;
  packet = c.in-Ok.ensures.found;
  client = c.requires.mode;
  is = c.ask_of.ensures;
}

pub returns-in-Ok-clause-only : goal.returns-in-Ok-clause-only
returns-in-Ok-clause-only c context =
    only_time _ _ _ context c.in-Ok.judged _ c.requires.mode
    (λ other is. let one = c.in-Ok.ensures.only other is in cc)
    (λ fault refused. let none = c.in-Ok.ensures.due fault refused in absurd cc)
    c.ask_of.ensures
