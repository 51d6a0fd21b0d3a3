use Rattle.sys_vars.specs.Texts.{reach_text}
use Rattle.sys_vars.proofs.ValueLemmas.{IsPlainValue-names, reach-names}
use Rattle.sys_vars.proofs.number_text.reach.Goals as goal

pub returns-clause-plain : goal.returns-clause-plain
unfolding reach_text
returns-clause-plain c = c.fixed.ensures.plain (IsPlainValue-names (reach_text c.args.reach) (reach-names c.args.reach))
