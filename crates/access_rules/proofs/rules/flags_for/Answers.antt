use Rattle.std.proofs.Common.{◌∙◌, Some, None}
use Rattle.access_rules.proofs.LastRuleLemmas.{flags_of-front}
use Rattle.access_rules.proofs.rules.flags_for.Goals as goal

pub returns-in-Some : goal.returns-in-Some
returns-in-Some c =
    flags_of-front c.args.rules.now c.deref.result.now c.args.ip.now c.family_end-end.result (Some c.in-Some.rule.now) c.family_end-end.ensures.table
    (c.deref.ensures.value ∙ c.rules.view_is) c.family_end-end.ensures.end (c.in-Some.ensures {u = tt})

pub returns-in-None : goal.returns-in-None
returns-in-None c =
    flags_of-front c.args.rules.now c.deref.result.now c.args.ip.now c.family_end-end.result None c.family_end-end.ensures.table
    (c.deref.ensures.value ∙ c.rules.view_is) c.family_end-end.ensures.end (c.in-None.ensures {u = tt})
