use Rattle.sys_vars.proofs.ValueLemmas.{plain-written}
use Rattle.sys_vars.proofs.number_text.parts_per_million.Goals as goal

pub returns-clause-plain : goal.returns-clause-plain
returns-clause-plain c = plain-written _ _ _ _ c.of.ensures c.in_ok-put_signed.ensures.value c.new-text.ensures.items c.in_ok-put_signed.ensures.word.0
