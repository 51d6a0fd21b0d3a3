use Rattle.std.proofs.Common.{sym}
use Rattle.mru_items.proofs.LenLemmas.{width-mask}
use Rattle.mru_items.proofs.query_writing.mask_len.Goals as goal

pub returns-else-mask-eq0-clause-value : goal.returns-else-mask-eq0-clause-value
returns-else-mask-eq0-clause-value c = λ name six. sym (width-mask name c.args.mask six c.if-mask-eq0.false)
