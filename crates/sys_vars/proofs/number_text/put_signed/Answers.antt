use Rattle.sys_vars.proofs.ValueLemmas.{on_ok_then, sign_word}
use Rattle.sys_vars.proofs.number_text.put_signed.Goals as goal

pub returns-clause-word : goal.returns-clause-word
returns-clause-word c = on_ok_then c.put_millionths.result _ _ c.put_millionths.ensures.word (sign_word _ _)
