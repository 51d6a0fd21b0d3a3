use Rattle.std.proofs.Common.{rules}
use Rattle.turnstile.proofs.Keeps.{passes}
use Rattle.turnstile.proofs.door.Turnstile.pass_on.Goals as goal

pub fetch_add-requires : goal.fetch_add-requires
fetch_add-requires g c = (search rules, search rules, passes _ _ _ _ _ _ _ c.requires.served)
