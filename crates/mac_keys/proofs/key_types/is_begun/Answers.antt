use Rattle.std.proofs.Common.{sym}
use Rattle.mac_keys.proofs.KeyWordLemmas.{begins-short}
use Rattle.mac_keys.proofs.key_types.is_begun.Goals as goal

pub returns-then-word-name : goal.returns-then-word-name
returns-then-word-name c = sym (begins-short _ _ c.if-word-name.true)
