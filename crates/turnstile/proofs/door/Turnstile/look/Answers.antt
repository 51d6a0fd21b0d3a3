use Rattle.std.proofs.Common.{rules}
use Rattle.turnstile.proofs.Keeps.{reads}
use Rattle.turnstile.proofs.door.Turnstile.look.Goals as goal

pub load-requires : goal.load-requires
load-requires g c = (search rules, search rules, reads _ _ _ _ _ _ c.requires.has.0 _ c.requires.has.1 c.requires.has.2)
