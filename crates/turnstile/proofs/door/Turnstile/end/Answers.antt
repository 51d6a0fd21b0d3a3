use Rattle.turnstile.proofs.Keeps.{closes}
use Rattle.turnstile.proofs.door.Turnstile.end.Goals as goal

pub returns : goal.returns
returns g c = closes _ _ _ _ _ _ _ _ _ c.close_with-closed.ensures.values.2 c.requires.ready.is_out c.requires.all_shares c.take-object.ensures.value
